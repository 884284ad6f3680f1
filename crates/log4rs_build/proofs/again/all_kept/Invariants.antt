use Rattle.std.proofs.Common.{All, map, string_bytes, take}
use Rattle.log4rs_plans.specs.Effective.{planned_of}
use Rattle.log4rs_build.specs.Keeping.{planned}
use Rattle.log4rs_build.specs.Leaving.{IsKeptUnder}
use Rattle.log4rs_build.proofs.again.all_kept.Given as goal

-- those so far are kept
abbrev pub invariant-loop-one : goal.invariant-loop-one
invariant-loop-one g l =
    All (λ one. IsKeptUnder (map planned_of l.asked) (map planned l.in_force) (string_bytes one.name)) (take l.one-index l.in_force)
