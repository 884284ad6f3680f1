use Rattle.log4rs_config.proofs.Governing.{below-limit}
use Rattle.log4rs_config.proofs.laws.nothing_above.Goals as goal

pub returns : goal.returns
returns c = below-limit
