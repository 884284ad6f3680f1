use Rattle.log4rs_config.proofs.Holding.{nothing_reread}
use Rattle.log4rs_tests.proofs.beside.LooseningRereads.reread.Goals as goal

pub returns : goal.returns
returns g c = nothing_reread _ _
