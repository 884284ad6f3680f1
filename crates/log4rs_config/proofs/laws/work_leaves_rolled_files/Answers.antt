use Rattle.log4rs_config.proofs.Beside.{drives_go_on, steps_go_on}
use Rattle.log4rs_config.proofs.laws.work_leaves_rolled_files.Goals as goal

pub returns : goal.returns
returns c = record { stepped = steps_go_on; driven = drives_go_on }
