use Rattle.log4rs_config.proofs.Governing.{governor-longest}
use Rattle.log4rs_config.proofs.laws.governor_is_longest.Goals as goal

pub returns : goal.returns
returns c = governor-longest
