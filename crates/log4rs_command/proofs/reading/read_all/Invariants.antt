use Rattle.std.proofs.Common.{◌≡◌, ◌*◌}
use Rattle.log4rs_command.proofs.reading.read_all.Given as goal

abbrev pub invariant-loop-thread : goal.invariant-loop-thread
invariant-loop-thread g l = l.read ≡ l.thread * l.count
