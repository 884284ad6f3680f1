use Rattle.log4rs_append.proofs.Rolled.{keeps_its_end}
use Rattle.log4rs_append.proofs.laws.rolled_files_keep_their_end.Goals as goal

pub returns : goal.returns
returns c = keeps_its_end
