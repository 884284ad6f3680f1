use Rattle.std.proofs.Common.{refl}
use Rattle.log4rs_parts.proofs.components.trigger_by.Goals as goal

pub returns-in-Ok-clause-trigger : goal.returns-in-Ok-clause-trigger
returns-in-Ok-clause-trigger g c = rw c.in-Time.is (c.in-Ok.trigger, refl, c.in-Ok.ensures.config, c.in-Ok.ensures.next)
