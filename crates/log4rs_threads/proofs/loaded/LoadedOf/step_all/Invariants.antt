use Rattle.std.proofs.Common.{◌≤◌}
use Rattle.log4rs_threads.proofs.loaded.LoadedOf.step_all.Given as goal

-- no more than the appenders so far
abbrev pub invariant-loop-at : goal.invariant-loop-at
invariant-loop-at g l = l.waiting ≤ l.at
