use Rattle.std.proofs.Common.{◌≡◌, take}
use Rattle.log4rs_config.proofs.runtime.levels.copies.Given as goal

-- the loggers so far
abbrev pub invariant-loop-logger : goal.invariant-loop-logger
invariant-loop-logger l = l.made.items ≡ take l.logger-index l.loggers
