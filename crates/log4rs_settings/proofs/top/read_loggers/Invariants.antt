use Rattle.std.proofs.Common.{◌≡◌, ◌++◌, Ok}
use Rattle.log4rs_settings.specs.View.{members_view}
use Rattle.log4rs_settings.specs.Loggers.{read_logger, loggers_view}
use Rattle.log4rs_settings.specs.Top.{each_member}
use Rattle.log4rs_settings.proofs.top.read_loggers.Given as goal

abbrev pub invariant-loop-name : goal.invariant-loop-name
invariant-loop-name l = (l.fn.object.entries ≡ l.yielded ++ l.name-iterator) × (each_member read_logger (members_view l.yielded) ≡ Ok (loggers_view l.loggers))
