use Rattle.std.proofs.Common.{◌≡◌, drop}
use Rattle.log4rs_threads.proofs.publish.swap_writer.append_by.Given as goal

-- nothing changed so far
abbrev pub invariant-loop : goal.invariant-loop
invariant-loop g l =
    (l.writer.desk ≡ l.fn.writer.desk)
    × (drop l.writer.behind l.writer.log.items ≡ drop l.fn.writer.behind l.fn.writer.log.items)
    × (l.published_swap ≡ l.fn.published_swap)
