use Rattle.std.proofs.Common.{◌≡◌, ◌++◌, ◌∷◌, [], List, Some, drop}
use Rattle.std.specs.Prelude.{Option}
use Rattle.left_right.specs.Sides.{view}
use Rattle.log4rs_threads.specs.declared.publish.published.PublishedSwap.{PublishedSwap}
use Rattle.log4rs_threads.specs.declared.publish.published.Published.{Published}
use Rattle.log4rs_threads.specs.declared.publish.published.View.{View}
use Rattle.log4rs_threads.proofs.publish.swap_writer.publish_by.Given as goal

-- the same is shown, and the published_swap stands last of what is not
abbrev pub invariant-loop : goal.invariant-loop
invariant-loop g l =
    (l.writer.desk.shown.value ≡ l.fn.writer.desk.shown.value)
    × (view {T = Published} {V = View} l.writer.desk.place ≡ view l.fn.writer.desk.place)
    × ((before : List (Option PublishedSwap)) × (drop l.writer.behind l.writer.log.items ≡ before ++ Some l.fn.published_swap ∷ []))
