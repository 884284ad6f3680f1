use Rattle.std.proofs.Common.{◌∙◌}
use Rattle.log4rs_threads.proofs.Knowing.{admits_same}
use Rattle.log4rs_threads.proofs.publish.publisher.PublisherOf.begin.Goals as goal

pub returns-clause-admits : goal.returns-clause-admits
returns-clause-admits g c = λ r.
    admits_same g.F.Filter.answer c.in_ok-shared.shared.value r ∙ rw c.in_ok-shared.ensures.ok (c.in_ok-locked.ensures.admits r)
