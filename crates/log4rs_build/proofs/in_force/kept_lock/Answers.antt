use Rattle.log4rs_build.proofs.in_force.kept_lock.Goals as goal

pub returns-in-Some-clause-lock : goal.returns-in-Some-clause-lock
returns-in-Some-clause-lock g c = (
  c.in-Some.one.now,
  c.in-Some.ensures.one,
  cc (c.in-Some.ensures.same, c.in_ok-effective.ensures, c.in_ok-copy.ensures),
  c.in_ok-share-in-Some.ensures,
)
