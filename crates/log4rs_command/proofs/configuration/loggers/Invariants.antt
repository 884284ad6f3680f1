use Rattle.std.proofs.Common.{◌≡◌, take}
use Rattle.log4rs_command.specs.Settings.{logger_settings}
use Rattle.log4rs_command.specs.Arguments.{asked_settings}
use Rattle.log4rs_command.proofs.configuration.loggers.Given as goal

abbrev pub invariant-loop-setting : goal.invariant-loop-setting
invariant-loop-setting l = l.loggers.items ≡ logger_settings (asked_settings (take l.setting-index l.settings))
