use Rattle.std.proofs.Common.{◌∙◌}
use Rattle.log4rs_threads.proofs.current.CurrentOf.new.Goals as goal

pub returns-clause-admits : goal.returns-clause-admits
returns-clause-admits g c = λ r. c.in_ok-of_locked.ensures.admits r ∙ c.in_ok-locked.ensures.admits r

pub returns-clause-locks : goal.returns-clause-locks
returns-clause-locks g c = rw c.in_ok-of_locked.ensures.appenders c.in_ok-locked.ensures.locks
