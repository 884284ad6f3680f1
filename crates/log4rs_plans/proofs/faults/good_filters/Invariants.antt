use Rattle.std.proofs.Common.{◌≡◌, ◌++◌, map}
use Rattle.log4rs_plans.specs.View.{told}
use Rattle.log4rs_plans.specs.Outcomes.{filter_errors, good}
use Rattle.log4rs_plans.proofs.faults.good_filters.Given as goal

abbrev pub invariant-loop-filter : goal.invariant-loop-filter
invariant-loop-filter l =
    (l.fn.filters.items ≡ l.yielded ++ l.filter-iterator.rest.items)
    × (l.plans.items ≡ good (map (told (λ plan. plan)) l.yielded))
    × (l.errors ≡ l.fn.errors ++ filter_errors l.name (map (told (λ plan. plan)) l.yielded))
