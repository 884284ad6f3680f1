use Rattle.log4rs_build.specs.Raw.{asked_by}
use Rattle.log4rs_build.proofs.again.planned_again.Goals as goal

pub returns-clause-plans : goal.returns-clause-plans
returns-clause-plans g c = (
  asked_by c.in_ok-asked.asked,
  rw c.text.ensures at (rw c.format.ensures at c.in_ok-asked.ensures.ok),
  rw c.in_ok-refill.ensures.makers.0 at c.in_ok-plans.ensures,
)
