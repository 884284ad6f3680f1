use Rattle.std.proofs.Common.{◌≡◌, ◌++◌, drop, map}
use Rattle.log4rs_settings.specs.Component.{filter_view}
use Rattle.log4rs_settings.specs.MakersView.{kinds}
use Rattle.log4rs_plans.specs.Plans.{filter_plans}
use Rattle.log4rs_plans.specs.View.{told}
use Rattle.log4rs_plans.proofs.asked.filters_asked.Given as goal

abbrev pub invariant-loop-filter : goal.invariant-loop-filter
invariant-loop-filter l =
    filter_plans (kinds l.makers) l.waiting (map filter_view l.filters)
    ≡ map (told (λ plan. plan)) l.plans.items ++ filter_plans (kinds l.makers) l.left (map filter_view (drop l.filter-index l.filters))
