use Rattle.std.proofs.Common.{subst}
use Rattle.log4rs_command.specs.Losses.{CountsOneMore}
use Rattle.log4rs_command.proofs.LossLemmas.{counts_each-more}
use Rattle.log4rs_command.proofs.losses.count_each.Goals as goal

pub loop-error-preserved : goal.loop-error-preserved
loop-error-preserved g c =
    counts_each-more c.args.losses.now c.loop-error.losses c.count_one.new.losses (g.N.AppenderNames.names c.args.names.now) c.args.errors.now c.loop-error.error-index c.error-item.result
    c.loop-error-test.true c.error-item.is c.loop-error.invariant
    (subst (λ l. CountsOneMore c.loop-error.losses c.count_one.new.losses l) c.appender_name.ensures c.in_ok-count_one.ensures)
