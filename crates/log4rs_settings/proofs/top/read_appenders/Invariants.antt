use Rattle.std.proofs.Common.{◌≡◌, ◌++◌, Ok}
use Rattle.log4rs_settings.specs.View.{members_view}
use Rattle.log4rs_settings.specs.Component.{read_appender}
use Rattle.log4rs_settings.specs.Top.{each_member, named_view}
use Rattle.log4rs_settings.proofs.top.read_appenders.Given as goal

abbrev pub invariant-loop-name : goal.invariant-loop-name
invariant-loop-name l = (l.fn.object.entries ≡ l.yielded ++ l.name-iterator) × (each_member read_appender (members_view l.yielded) ≡ Ok (named_view l.appenders))
