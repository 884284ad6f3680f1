use Rattle.log4rs_config.proofs.Lookup.{deliveries_same}
use Rattle.log4rs_config.proofs.laws.order_of_loggers.Goals as goal

pub returns : goal.returns
returns c = deliveries_same
