use Rattle.std.proofs.Common.{◌≡◌, map, string_bytes, take}
use Rattle.log4rs_plans.specs.Outcomes.{errors_of, refused_names}
use Rattle.log4rs_plans.proofs.faults.refused_among.Given as goal

-- the names so far
abbrev pub invariant-loop-error : goal.invariant-loop-error
invariant-loop-error l =
    map (λ s. string_bytes s) l.names.items ≡ refused_names (errors_of (take l.error-index l.errors))
