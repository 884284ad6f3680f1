use Rattle.std.proofs.Common.{All, string_bytes, take}
use Rattle.log4rs_plans.specs.Outcomes.{IsLeftOut}
use Rattle.log4rs_build.proofs.again.one_works.Given as goal

-- those so far are left out
abbrev pub invariant-loop-name : goal.invariant-loop-name
invariant-loop-name l =
    All (λ name. IsLeftOut (string_bytes name) l.errors) (take l.name-index l.refused)
