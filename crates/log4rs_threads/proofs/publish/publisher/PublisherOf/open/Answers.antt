use Rattle.log4rs_threads.proofs.publish.publisher.PublisherOf.open.Goals as goal

pub returns-in-Ok-clause-admits : goal.returns-in-Ok-clause-admits
returns-in-Ok-clause-admits g c = λ r. rw c.sessions.ensures.same (c.in_ok-publisher.ensures.admits r)
