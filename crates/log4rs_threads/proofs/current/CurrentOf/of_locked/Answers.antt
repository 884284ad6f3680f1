use Rattle.log4rs_threads.proofs.current.CurrentOf.of_locked.Goals as goal

pub invariant_of-result : goal.invariant_of-result
invariant_of-result g c = record { named = rw c.in_ok-new.ensures.ok c.into_lists-appenders.ensures.named }
