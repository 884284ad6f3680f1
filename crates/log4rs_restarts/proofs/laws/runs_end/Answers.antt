use Rattle.log4rs_restarts.proofs.Cutting.{end_at_cuts}
use Rattle.log4rs_restarts.proofs.laws.runs_end.Goals as goal

pub returns : goal.returns
returns c = end_at_cuts
