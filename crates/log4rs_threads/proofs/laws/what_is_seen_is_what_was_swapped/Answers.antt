use Rattle.log4rs_threads.proofs.Knowing.{sees_all, uses_opening}
use Rattle.log4rs_threads.proofs.laws.what_is_seen_is_what_was_swapped.Goals as goal

pub returns-clause-all : goal.returns-clause-all
returns-clause-all c = sees_all

pub returns-clause-none : goal.returns-clause-none
returns-clause-none c = uses_opening
