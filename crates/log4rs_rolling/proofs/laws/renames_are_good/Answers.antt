use Rattle.log4rs_rolling.proofs.Appending.{since_renamed}
use Rattle.log4rs_rolling.proofs.laws.renames_are_good.Goals as goal

pub returns : goal.returns
returns c = since_renamed
