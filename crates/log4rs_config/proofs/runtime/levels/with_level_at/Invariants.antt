use Rattle.std.proofs.Common.{◌≡◌, map, take}
use Rattle.log4rs_config.specs.Levels.{leveled}
use Rattle.log4rs_config.proofs.runtime.levels.with_level_at.Given as goal

-- the loggers so far
abbrev pub invariant-loop-logger : goal.invariant-loop-logger
invariant-loop-logger l = l.made.items ≡ map (leveled l.name l.level) (take l.logger-index l.loggers)
