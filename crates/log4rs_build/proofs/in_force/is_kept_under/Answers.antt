use Rattle.std.proofs.Common.{◌≡◌, true, false, map}
use Rattle.log4rs_build.specs.Keeping.{planned}
use Rattle.log4rs_build.specs.Leaving.{IsKeptAs}
use Rattle.log4rs_plans.specs.Effective.{planned_of}
use Rattle.log4rs_plans.proofs.Elements.{seen_of_none}
use Rattle.log4rs_build.proofs.in_force.is_kept_under.Goals as goal

pub returns : goal.returns
returns g c = (
  λ (e : false ≡ true). cc,
  λ k. absurd (seen_of_none planned_of (IsKeptAs (map planned c.args.in_force.now) c.args.name.now) c.args.asked.now c.loop-appender.appender-index k.0 c.loop-appender-test.false c.loop-appender.invariant k.2 k.1),
)
