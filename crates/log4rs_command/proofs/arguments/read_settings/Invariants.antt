use Rattle.std.proofs.Common.{map, string_bytes, take}
use Rattle.std.specs.List.{AllZip}
use Rattle.log4rs_command.specs.Arguments.{IsSetting, asked_settings}
use Rattle.log4rs_command.proofs.arguments.read_settings.Given as goal

abbrev pub invariant-loop-arg : goal.invariant-loop-arg
invariant-loop-arg l = AllZip IsSetting (map (λ arg. string_bytes arg) (take l.arg-index l.args)) (asked_settings l.settings.items)
