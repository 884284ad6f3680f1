use Rattle.log4rs_build.proofs.Histories.{ends_at_last, fails_at_last, tries_at_last}
use Rattle.log4rs_build.proofs.rereading.RereadingDeserializersWithAppenderRereadsAppenderFilter.reread.Goals as goal

pub returns-in-Ok-Same : goal.returns-in-Ok-Same
returns-in-Ok-Same g c = tries_at_last _ _ _ _ _ _ c.retry_all.ensures (rw c.in-Ok-Same.field-0-is at c.in-Ok-Same.ensures.undone) c.retry.ensures.tries

pub returns-in-Ok : goal.returns-in-Ok
returns-in-Ok g c = ends_at_last _ _ _ _ _ _ _ c.retry_all.ensures (rw c.in-Ok.is at c.reread.ensures.undone) c.put_in_force.ensures

pub returns-in-Err : goal.returns-in-Err
returns-in-Err g c = fails_at_last _ _ _ _ _ _ c.retry_all.ensures (rw c.in-Err.is at c.reread.ensures.undone)
