use Rattle.log4rs_threads.proofs.Puts.{each_put, are_apart}
use Rattle.log4rs_threads.proofs.laws.each_delivery_is_put.Goals as goal

pub returns-clause-each : goal.returns-clause-each
returns-clause-each c = each_put

pub returns-clause-apart : goal.returns-clause-apart
returns-clause-apart c = are_apart
