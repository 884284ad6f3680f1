use Rattle.log4rs_config.proofs.Rolled.{answer_goes_on, answer_leaves_others, both_go_on}
use Rattle.log4rs_config.proofs.laws.deliveries_leave_rolled_files.Goals as goal

pub returns : goal.returns
returns c = record { rolled = answer_goes_on; others = answer_leaves_others; joined = both_go_on }
