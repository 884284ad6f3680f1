use Rattle.std.proofs.Common.{rules}
use Rattle.log4rs_plans.specs.Effective.{planned_of}
use Rattle.log4rs_settings.specs.Plan.{appender_of}
use Rattle.log4rs_plans.proofs.Elements.{seen_as}
use Rattle.log4rs_build.proofs.in_force.plan_of.Goals as goal

pub returns-then-eq : goal.returns-then-eq
returns-then-eq c =
    seen_as planned_of c.args.planned.now c.loop-appender.appender-index c.appender-item.result (c.args.name.now, appender_of c.appender-item.result.plan)
    c.loop-appender-test.true c.appender-item.is (search rules)
