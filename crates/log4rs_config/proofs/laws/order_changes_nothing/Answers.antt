use Rattle.log4rs_config.proofs.Distinct.{permuted}
use Rattle.log4rs_config.proofs.Lookup.{deliveries_same}
use Rattle.log4rs_config.proofs.laws.order_changes_nothing.Goals as goal

pub returns : goal.returns
returns c names root xs ys admits r moved distinct = deliveries_same names root xs ys admits r (permuted xs ys moved distinct)
