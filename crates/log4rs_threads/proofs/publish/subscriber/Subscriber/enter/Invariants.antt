use Rattle.std.proofs.Common.{◌≡◌, Some}
use Rattle.std.specs.Arc.{arc_value}
use Rattle.left_right.specs.Sides.{view}
use Rattle.log4rs_threads.specs.Swaps.{StartsWith}
use Rattle.log4rs_threads.specs.declared.publish.published.Published.{Published}
use Rattle.log4rs_threads.specs.declared.publish.published.View.{View}
use Rattle.log4rs_threads.proofs.publish.subscriber.Subscriber.enter.Given as goal

-- the opening is known, and what was seen begins with what was seen before
abbrev pub invariant-loop : goal.invariant-loop
invariant-loop g l =
    ((view {T = Published} {V = View} l.reader.place).opening ≡ Some (arc_value l.opening))
    × ((view {T = Published} {V = View} l.reader.place).seen ≡ l.seen.swaps)
    × (l.seen.book ≡ l.told.book)
    × StartsWith l.seen.swaps l.fn.self.seen
