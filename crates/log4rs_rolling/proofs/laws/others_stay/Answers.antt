use Rattle.log4rs_rolling.proofs.Places.{others_stay}
use Rattle.log4rs_rolling.proofs.laws.others_stay.Goals as goal

pub returns : goal.returns
returns c = others_stay
