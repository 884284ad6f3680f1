-- The appenders that are built by plans, and the faults of those that are left out.
use Rattle.std.specs.Prelude.{◌≡◌, ℕ, List, [], ◌∷◌, ◌++◌, Option, Some, None, Result, Ok, Err}
use Rattle.std.specs.Option.{option_to_list}
use Rattle.log4rs_base.specs.Text.{Text}
use Rattle.log4rs_settings.specs.Fault.{Fault}
use Rattle.log4rs_settings.specs.Part.{Part}
use Rattle.log4rs_settings.specs.Plan.{AppenderPlan}
use Rattle.log4rs_settings.specs.declared.plan.FilterPlan.{FilterPlan}
use Rattle.log4rs_plans.specs.Plans.{Asked}
use Rattle.log4rs_parts.specs.Refusals.{reported}
use Rattle.log4rs_plans.specs.Outcomes.{Error, in_appender, filter_errors, good}
use Rattle.log4rs_parts.specs.declared.build_appender.Refusal.{Refusal}

-- over what is handed in, a `W`, and what an appender built of a plan is
module _ {W A : Type 0}
    (Builds : List ℕ → List FilterPlan → AppenderPlan → Result A Refusal → W → W → Type 0) where
  -- an appender by its filters and its plan: faults of filters first, then its own
  abbrev pub BuildsBy : List ℕ → List (Result FilterPlan Part)
      → Result AppenderPlan Part → Option A → List Error → W → W → Type 0
  BuildsBy name filters (Ok plan) (Some made) errors w w' =
      Builds name (good filters) plan (Ok made) w w' × (errors ≡ filter_errors name filters)
  BuildsBy name filters (Ok plan) None errors w w' =
      (refusal : Refusal) × (fault : Fault)
      × Builds name (good filters) plan (Err refusal) w w'
      × (reported refusal ≡ Some fault)
      × (errors ≡ filter_errors name filters ++ in_appender name fault ∷ [])
  BuildsBy name filters (Err p) made errors w w' =
      (made ≡ None)
      × (errors ≡ filter_errors name filters ++ in_appender name p.fault ∷ [])
      × (w' ≡ w)

  -- an appender by its name and what its settings ask for
  abbrev pub BuildsOne : Text × Asked → Option A → List Error → W → W → Type 0
  BuildsOne a made errors w w' = BuildsBy a.0 a.1.filters a.1.plan made errors w w'

  -- one after another
  abbrev pub BuildsEach : List (Text × Asked) → List A → List Error → W → W → Type 0
  BuildsEach [] built errors w w' = (built ≡ []) × (errors ≡ []) × (w' ≡ w)
  BuildsEach (a ∷ others) built errors w w' =
      (made : Option A) × (more : List A) × (here : List Error) × (later : List Error)
      × (between : W)
      × BuildsOne a made here w between
      × BuildsEach others more later between w'
      × (built ≡ option_to_list made ++ more)
      × (errors ≡ here ++ later)
