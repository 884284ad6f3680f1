use Rattle.std.proofs.Common.{map, All}
use Rattle.log4rs_build.specs.Standing.{WasAsked}
use Rattle.log4rs_plans.specs.Effective.{planned_of}
use Rattle.log4rs_build.proofs.in_force.in_force_of.Given as goal

-- those so far were asked for and are present
abbrev pub invariant-loop-shared : goal.invariant-loop-shared
invariant-loop-shared g l = All (WasAsked (map planned_of l.asked) l.present) l.in_force.items
