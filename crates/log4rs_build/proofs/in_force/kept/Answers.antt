use Rattle.std.proofs.Common.{◌≡◌, true, false}
use Rattle.log4rs_settings.specs.Plan.{appender_of}
use Rattle.log4rs_build.specs.Keeping.{planned}
use Rattle.log4rs_plans.proofs.Elements.{unseen}
use Rattle.log4rs_build.proofs.in_force.kept.Goals as goal

pub returns-clause-kept : goal.returns-clause-kept
returns-clause-kept g c = (
  λ (e : false ≡ true). cc,
  λ k. absurd (unseen planned c.args.in_force.now c.loop-appender.appender-index (c.args.name.now, appender_of c.args.plan.now) c.loop-appender-test.false c.loop-appender.invariant k),
)
