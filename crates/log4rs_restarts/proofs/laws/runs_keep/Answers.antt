use Rattle.log4rs_restarts.proofs.Keeping.{ran}
use Rattle.log4rs_restarts.proofs.laws.runs_keep.Goals as goal

pub returns : goal.returns
returns c = ran
