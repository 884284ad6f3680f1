-- One appender more.
use Rattle.std.proofs.Common.{ℕ, List, [], ◌∷◌, ◌++◌, Option, Result, subst, refl, sym, ap, ◌∙◌, append_assoc, append-nil}
use Rattle.std.specs.Option.{option_to_list}
use Rattle.log4rs_base.specs.Text.{Text}
use Rattle.log4rs_settings.specs.Plan.{AppenderPlan}
use Rattle.log4rs_settings.specs.declared.plan.FilterPlan.{FilterPlan}
use Rattle.log4rs_plans.specs.Plans.{Asked}
use Rattle.log4rs_plans.specs.Outcomes.{Error}
use Rattle.log4rs_build.specs.Lossy.{BuildsOne, BuildsEach}
use Rattle.log4rs_parts.specs.declared.build_appender.Refusal.{Refusal}

module _ {W A : Type 0} (Builds : List ℕ → List FilterPlan → AppenderPlan → Result A Refusal → W → W → Type 0) where
  -- after those before it
  pub then_one : (before : List (Text × Asked)) (a : Text × Asked) (built : List A) (made : Option A) (errors more : List Error) (w between w' : W)
      → BuildsEach Builds before built errors w between → BuildsOne Builds a made more between w'
      → BuildsEach Builds (before ++ a ∷ []) (built ++ option_to_list made) (errors ++ more) w w'
  then_one [] a built made errors more w between w' done here =
      let last : BuildsOne Builds a made more w w' = subst (λ v. BuildsOne Builds a made more v w') done.2 here in
      (made, [], more, [], w', last, (refl, refl, refl), ap (λ l. l ++ option_to_list made) done.0 ∙ sym (append-nil (option_to_list made)), ap (λ l. l ++ more) done.1 ∙ sym (append-nil more))
  then_one (b ∷ before) a built made errors more w between w' done here =
      let rest = then_one before a done.1 made done.3 more done.4 between w' done.6 here in (
        done.0,
        done.1 ++ option_to_list made,
        done.2,
        done.3 ++ more,
        done.4,
        done.5,
        rest,
        ap (λ l. l ++ option_to_list made) done.7 ∙ append_assoc (option_to_list done.0) done.1 (option_to_list made),
        ap (λ l. l ++ more) done.8 ∙ append_assoc done.2 done.3 more,
      )
