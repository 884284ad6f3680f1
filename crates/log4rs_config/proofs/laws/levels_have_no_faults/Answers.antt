use Rattle.log4rs_config.proofs.LevelFaults.{faultless_where_accepted, level-faults}
use Rattle.log4rs_config.proofs.laws.levels_have_no_faults.Goals as goal

pub returns-clause-accepted : goal.returns-clause-accepted
returns-clause-accepted c = faultless_where_accepted

pub returns-clause-level : goal.returns-clause-level
returns-clause-level c = level-faults
