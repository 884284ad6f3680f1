use Rattle.log4rs_append.proofs.Rolled.{goes_on_joined, goes_on_still}
use Rattle.log4rs_append.proofs.laws.rolled_files_go_on.Goals as goal

pub returns : goal.returns
returns c = record { nothing = goes_on_still; joined = goes_on_joined }
