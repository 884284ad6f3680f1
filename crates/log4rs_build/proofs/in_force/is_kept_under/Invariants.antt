use Rattle.std.proofs.Common.{map, All, take}
use Rattle.log4rs_build.specs.Keeping.{planned}
use Rattle.log4rs_build.specs.Leaving.{IsKeptAs}
use Rattle.log4rs_plans.specs.Effective.{planned_of}
use Rattle.log4rs_build.proofs.in_force.is_kept_under.Given as goal

-- none so far has the name and is kept
abbrev pub invariant-loop-appender : goal.invariant-loop-appender
invariant-loop-appender g l =
    All (λ a. ¬ IsKeptAs (map planned l.in_force) l.name (planned_of a)) (take l.appender-index l.asked)
