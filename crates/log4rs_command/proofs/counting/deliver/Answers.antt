use Rattle.std.proofs.Common.{[]}
use Rattle.log4rs_command.proofs.DeliveryLemmas.{failures_of}
use Rattle.log4rs_command.proofs.counting.deliver.Goals as goal

pub returns : goal.returns
returns g c = failures_of _ _ _ _ _ _ _ _ _ (c.log_noting.ensures.delivered [] c.clear.ensures.items)
