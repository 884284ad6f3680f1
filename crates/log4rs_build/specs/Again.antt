-- What a reading does for appenders whose files could not be opened.
use Rattle.std.specs.Prelude.{◌≡◌, List, [], ◌∷◌, ◌++◌, All, Contains, Result, length, map}
use Rattle.std.specs.Prelude.{string_bytes, true}
use Rattle.log4rs_base.specs.Text.{Text}
use Rattle.log4rs_append.specs.declared.locked.Locked.{Locked}
use Rattle.log4rs_config.specs.Faults.{Fault}
use Rattle.log4rs_config.specs.Holder.{EndsBy, Happened, History, HolderEvent, IsReply, presents}
use Rattle.log4rs_config.specs.declared.runtime.appender.Filtered.{Filtered}
use Rattle.log4rs_config.specs.declared.runtime.config.ConfigOf.{ConfigOf}
use Rattle.log4rs_config.specs.declared.runtime.shared.SharedAppender.{SharedAppender}
use Rattle.log4rs_settings.specs.Plan.{AppenderPlan}
use Rattle.log4rs_settings.specs.Top.{TopSettings}
use Rattle.log4rs_settings.specs.declared.plan.FilterPlan.{FilterPlan}
use Rattle.log4rs_settings.specs.declared.plan.Waiting.{Waiting}
use Rattle.log4rs_plans.specs.Effective.{Planned, planned_in}
use Rattle.log4rs_plans.specs.Outcomes.{Error, IsLeftOut}
use Rattle.log4rs_plans.specs.Plans.{all_filters_good, appenders_asked}
use Rattle.log4rs_plans.specs.declared.surroundings.Surroundings.{Surroundings}
use Rattle.log4rs_parts.specs.declared.build_appender.Refusal.{Refusal}
use Rattle.log4rs_build.specs.Deserializers.{kinds_in, handed_of, part_makers_of}
use Rattle.log4rs_build.specs.Keeping.{planned}
use Rattle.log4rs_build.specs.Kept.{IsLoadedBeside}
use Rattle.log4rs_build.specs.Leaving.{IsKeptUnder, Leaves}
use Rattle.log4rs_build.specs.Retiring.{Asks}
use Rattle.log4rs_build.specs.declared.deserializers.DeserializersWith.{DeserializersWith}
use Rattle.log4rs_build.specs.declared.in_force.InForce.{InForce}

module _ {B : Type 0} where
  -- of those in force none is retired, and each is asked for again;
  -- no other is present, but consoles
  pub record AllStand
      (asked : List Planned) (in_force : List (InForce B)) (before after : History B)
      (still : List (InForce B)) : Type 0 where
    pub answers : List (HolderEvent B)
    pub present : List (SharedAppender B)
    pub stands : Asks in_force still answers
    pub none_retired : length still ≡ length in_force
    pub asked_again
        : All (λ one. IsKeptUnder asked (map planned still) (string_bytes one.name)) still
    pub none_leaves : (one : SharedAppender B) → ¬ Leaves asked (map planned still) present one
    pub happened : Happened before after (answers ++ presents present ∷ [])

  -- the holder replied, and was given another configuration or not; nothing was retired or resumed
  abbrev pub TriesAgain : History B → History B → Type 0
  TriesAgain before after =
      (replies : List (HolderEvent B)) × All IsReply replies
      × (end : List (HolderEvent B)) × EndsBy [] end
      × Happened before after (replies ++ end)

-- one of these appenders is left out no longer
abbrev pub OneWorks : List Text → List Error → Type 0
OneWorks refused errors = (name : Text) × Contains refused name × ¬ IsLeftOut name errors

-- over what is built of components of the caller's, a `P`, and how these are made anew
module _ {P A F R : Type 0}
    (Builds : Text → List FilterPlan → AppenderPlan → Result (Filtered A F) Refusal → P → P
    → Type 0)
    (BuildsFilters : Text → List FilterPlan → List F → P → P → Type 0)
    (around : Surroundings) (Refills : R → P → P → Type 0) (waiting : P → Text → Waiting) where
  -- what settings ask for was built again, with each filter, beside what is in force,
  -- all of which stands and was kept
  pub record IsBuiltAgain
      (in_force : List (InForce A)) (earlier later : History A) (old new : DeserializersWith P R)
      (top : TopSettings) (config : ConfigOf (Locked A) F) (errors : List Error)
      (found : List Fault) : Type 0 where
    pub filled : P
    pub refilled : Refills (part_makers_of old) (handed_of old) filled
    pub still : List (InForce A)
    pub stand : AllStand
        (planned_in around (appenders_asked (kinds_in old) (waiting filled) top.appenders))
        in_force earlier later still
    pub filters
        : all_filters_good (appenders_asked (kinds_in old) (waiting filled) top.appenders) ≡ true
    pub built : IsLoadedBeside Builds BuildsFilters around top
        (appenders_asked (kinds_in old) (waiting filled) top.appenders) still
        config errors found filled (handed_of new)
