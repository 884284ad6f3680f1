use Rattle.std.proofs.Common.{◌≡◌, ◌++◌, map, not, string_bytes, take}
use Rattle.log4rs_plans.specs.Places.{each_at, if_so}
use Rattle.log4rs_plans.specs.Unused.{is_named}
use Rattle.log4rs_plans.specs.declared.warnings.Warning.TheVariants.{Unused}
use Rattle.log4rs_plans.proofs.unused.unused.Given as goal

abbrev pub invariant-loop-place : goal.invariant-loop-place
invariant-loop-place l =
    l.found.items
    ≡ l.initial.found.items ++ each_at (λ place name. if_so (not (is_named l.plans name)) (Unused place)) (map (λ appender. string_bytes appender.name) (take l.place l.plans.appenders.items))
