use Rattle.log4rs_threads.specs.Running.{IsRun}
use Rattle.log4rs_threads.proofs.schedule.world.World.run.Given as goal

-- the events so far were run
abbrev pub invariant-loop-at : goal.invariant-loop-at
invariant-loop-at l = IsRun l.fn.self l.schedule l.at l.state
