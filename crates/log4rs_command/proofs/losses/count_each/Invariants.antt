use Rattle.std.proofs.Common.{take}
use Rattle.log4rs_command.specs.Losses.{CountsEach, failed_at}
use Rattle.log4rs_command.proofs.losses.count_each.Given as goal

abbrev pub invariant-loop-error : goal.invariant-loop-error
invariant-loop-error g l = CountsEach l.initial.losses l.losses (failed_at (g.N.AppenderNames.names l.names) (take l.error-index l.errors))
