-- The good filters of an appender and the faults of the bad ones, one after another.
use Rattle.std.proofs.Common.{◌≡◌, List, [], ◌∷◌, ◌++◌, Result, Ok, Err, map, refl, ap, ◌∙◌}
use Rattle.std.proofs.lemmas.List.{map-append}
use Rattle.log4rs_settings.specs.Part.{Part}
use Rattle.log4rs_settings.specs.declared.plan.FilterPlan.{FilterPlan}
use Rattle.log4rs_settings.specs.declared.part.PartFault.{PartFault}
use Rattle.log4rs_base.specs.Text.{Text}
use Rattle.log4rs_plans.specs.View.{told}
use Rattle.log4rs_plans.specs.Outcomes.{filter_errors, good, in_filter}

good-append : (xs ys : List (Result FilterPlan Part)) → good (xs ++ ys) ≡ good xs ++ good ys
good-append [] ys = refl
good-append (Ok plan ∷ xs) ys = ap (λ l. plan ∷ l) (good-append xs ys)
good-append (Err p ∷ xs) ys = good-append xs ys

errors-append : (name : Text) (xs ys : List (Result FilterPlan Part)) → filter_errors name (xs ++ ys) ≡ filter_errors name xs ++ filter_errors name ys
errors-append name [] ys = refl
errors-append name (Ok plan ∷ xs) ys = errors-append name xs ys
errors-append name (Err p ∷ xs) ys = ap (λ l. in_filter name p.fault ∷ l) (errors-append name xs ys)

-- one filter more
abbrev pub seen : Result FilterPlan PartFault → Result FilterPlan Part
seen = told (λ plan. plan)

pub good-last : (xs : List (Result FilterPlan PartFault)) (x : Result FilterPlan PartFault) → good (map seen (xs ++ x ∷ [])) ≡ good (map seen xs) ++ good (seen x ∷ [])
good-last xs x = ap good (map-append seen xs (x ∷ [])) ∙ good-append (map seen xs) (seen x ∷ [])

pub errors-last : (name : Text) (xs : List (Result FilterPlan PartFault)) (x : Result FilterPlan PartFault)
    → filter_errors name (map seen (xs ++ x ∷ [])) ≡ filter_errors name (map seen xs) ++ filter_errors name (seen x ∷ [])
errors-last name xs x = ap (filter_errors name) (map-append seen xs (x ∷ [])) ∙ errors-append name (map seen xs) (seen x ∷ [])
