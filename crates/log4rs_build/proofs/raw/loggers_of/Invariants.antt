use Rattle.std.proofs.Common.{◌≡◌, map, take}
use Rattle.log4rs_settings.specs.Loggers.{logger_entry}
use Rattle.log4rs_build.specs.Raw.{logger_asked}
use Rattle.log4rs_build.proofs.raw.loggers_of.Given as goal

abbrev pub invariant-loop-named : goal.invariant-loop-named
invariant-loop-named l = l.loggers.items ≡ map logger_asked (map logger_entry (take l.named-index l.settings))
