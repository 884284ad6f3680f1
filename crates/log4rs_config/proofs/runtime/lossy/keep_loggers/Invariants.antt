use Rattle.std.proofs.Common.{◌≡◌, map, take, drop}
use Rattle.log4rs_config.specs.Lossy.{with_known}
use Rattle.log4rs_config.proofs.runtime.lossy.keep_loggers.Given as goal

-- the loggers so far have forgotten the unknown names, the others stand
abbrev pub invariant-loop-logger : goal.invariant-loop-logger
invariant-loop-logger l =
    (take l.logger-index l.logger-items ≡ map (with_known l.known) (take l.logger-index l.initial.logger-items))
    × (drop l.logger-index l.logger-items ≡ drop l.logger-index l.initial.logger-items)
