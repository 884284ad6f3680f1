use Rattle.std.proofs.Common.{◌≡◌, map, take}
use Rattle.log4rs_plans.specs.Effective.{planned_in, planned_of}
use Rattle.log4rs_plans.specs.View.{asked_view}
use Rattle.log4rs_plans.proofs.asked.Plans.planned.Given as goal

abbrev pub invariant-loop-asked : goal.invariant-loop-asked
invariant-loop-asked l = map planned_of l.planned.items ≡ planned_in l.surroundings (map asked_view (take l.asked-index l.asked-items))
