use Rattle.log4rs_config.proofs.Leveling.{level-is_set, name-governs_itself, places-stay}
use Rattle.log4rs_config.proofs.laws.level_is_set.Goals as goal

pub returns-clause-level : goal.returns-clause-level
returns-clause-level c = level-is_set

pub returns-clause-itself : goal.returns-clause-itself
returns-clause-itself c = name-governs_itself

pub returns-clause-places : goal.returns-clause-places
returns-clause-places c = places-stay
