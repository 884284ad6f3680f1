use Rattle.std.proofs.Common.{◌≡◌, take}
use Rattle.log4rs_command.specs.Settings.{root_level}
use Rattle.log4rs_command.specs.Arguments.{asked_settings}
use Rattle.log4rs_command.proofs.configuration.root_level.Given as goal

abbrev pub invariant-loop-setting : goal.invariant-loop-setting
invariant-loop-setting l = l.level ≡ root_level (asked_settings (take l.setting-index l.settings))
