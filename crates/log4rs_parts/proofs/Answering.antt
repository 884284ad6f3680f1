-- One filter more.
use Rattle.std.proofs.Common.{◌≡◌, ℕ, List, [], ◌∷◌, ◌++◌, refl, sym, ap, ◌∙◌, length, append_assoc, arith}
use Rattle.std.specs.Option.{option_to_list, option_map}
use Rattle.log4rs_base.specs.Filtering.{threshold_answer}
use Rattle.log4rs_settings.specs.declared.plan.FilterPlan.{FilterPlan}
use Rattle.log4rs_settings.specs.declared.plan.FilterPlan.TheVariants.{Threshold, HandedIn}
use Rattle.log4rs_parts.specs.Filters.{Answer, planned_answers, left_by}
use Rattle.log4rs_parts.specs.NamedParts.{first_for, without_first}

module _ {C : Type 0} (custom : C → Answer) (name : List ℕ) where
  pub answers-last : (ps : List FilterPlan) (p : FilterPlan) (waiting : List (List ℕ × C))
      → planned_answers custom name (ps ++ p ∷ []) waiting ≡ planned_answers custom name ps waiting ++ planned_answers custom name (p ∷ []) (left_by name ps waiting)
  answers-last [] p waiting = refl
  answers-last (Threshold level ∷ ps) p waiting = ap (λ l. (λ r. threshold_answer level r.level) ∷ l) (answers-last ps p waiting)
  answers-last (HandedIn ∷ ps) p waiting =
      ap (λ l. option_to_list (option_map custom (first_for name waiting)) ++ l) (answers-last ps p (without_first name waiting))
      ∙ sym (append_assoc (option_to_list (option_map custom (first_for name waiting))) (planned_answers custom name ps (without_first name waiting)) _)

  pub left-last : (ps : List FilterPlan) (p : FilterPlan) (waiting : List (List ℕ × C))
      → left_by name (ps ++ p ∷ []) waiting ≡ left_by name (p ∷ []) (left_by name ps waiting)
  left-last [] p waiting = refl
  left-last (Threshold level ∷ ps) p waiting = left-last ps p waiting
  left-last (HandedIn ∷ ps) p waiting = left-last ps p (without_first name waiting)

pub none_left : {A : Type 0} (xs : List A) → length xs ≡ 0 → xs ≡ []
none_left [] h = refl
none_left (x ∷ xs) h = absurd (omega (arith, h))
