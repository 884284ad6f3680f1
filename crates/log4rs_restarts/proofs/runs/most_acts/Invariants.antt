use Rattle.std.proofs.Common.{take}
use Rattle.log4rs_restarts.specs.Runs.{HaveRoom}
use Rattle.log4rs_restarts.proofs.runs.most_acts.Given as goal

abbrev pub invariant-loop-run : goal.invariant-loop-run
invariant-loop-run l = HaveRoom l.most (take l.run-index l.runs)
