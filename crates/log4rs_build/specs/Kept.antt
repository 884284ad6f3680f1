-- What a builder gives that keeps appenders in force.
use Rattle.std.specs.Prelude.{◌≡◌, ℕ, List, map, Option, Some, None, Result, Ok, Err, ⊤}
use Rattle.log4rs_base.specs.Text.{Text}
use Rattle.log4rs_append.specs.Locks.{began_as}
use Rattle.log4rs_append.specs.declared.locked.Locked.{Locked}
use Rattle.log4rs_config.specs.Faults.{Fault}
use Rattle.log4rs_config.specs.Appender.{name_of, appender_of, filters_of}
use Rattle.log4rs_config.specs.Holder.{History}
use Rattle.log4rs_config.specs.declared.runtime.appender.Filtered.{Filtered}
use Rattle.log4rs_config.specs.declared.runtime.config.ConfigOf.{ConfigOf}
use Rattle.log4rs_settings.specs.Plan.{AppenderPlan}
use Rattle.log4rs_settings.specs.Top.{TopOf, TopSettings}
use Rattle.log4rs_settings.specs.declared.load.LoadedText.{LoadedText}
use Rattle.log4rs_settings.specs.declared.plan.FilterPlan.{FilterPlan}
use Rattle.log4rs_settings.specs.declared.plan.Waiting.{Waiting}
use Rattle.log4rs_plans.specs.Effective.{effective, planned_in}
use Rattle.log4rs_plans.specs.Plans.{Asked, appenders_asked}
use Rattle.log4rs_plans.specs.declared.surroundings.Surroundings.{Surroundings}
use Rattle.log4rs_build.specs.Asked.{IsLoaded}
use Rattle.log4rs_build.specs.Deserializers.{kinds_in, handed_of, part_makers_of}
use Rattle.log4rs_build.specs.Keeping.{planned, IsKept, IsLockOf}
use Rattle.log4rs_build.specs.Lossy.{BuildsEach}
use Rattle.log4rs_plans.specs.Outcomes.{Error}
use Rattle.log4rs_build.specs.Raw.{TextFault}
use Rattle.log4rs_build.specs.Rebuilt.{leaving_in}
use Rattle.log4rs_build.specs.Retiring.{Retires}
use Rattle.log4rs_parts.specs.declared.build_appender.Refusal.{Refusal}
use Rattle.log4rs_parts.specs.declared.build_appender.Refusal.TheVariants.{Memory}
use Rattle.log4rs_build.specs.declared.deserializers.DeserializersWith.{DeserializersWith}
use Rattle.log4rs_build.specs.declared.in_force.InForce.{InForce}
use Rattle.log4rs_build.specs.declared.in_force.Keeping.{Keeping}
use Rattle.log4rs_build.specs.declared.rereading.Rebuilt.{Rebuilt}

-- over what is built of components of the caller's, a `P`, in surroundings
module _ {P A F : Type 0}
    (Builds : Text → List FilterPlan → AppenderPlan → Result (Filtered A F) Refusal → P → P
    → Type 0)
    (BuildsFilters : Text → List FilterPlan → List F → P → P → Type 0)
    (around : Surroundings) where
  -- an appender in force behind new filters: its lock is that of one in force
  -- that has the name and the effective plan
  pub record IsShared
      (in_force : List (InForce A)) (name : Text) (plans : List FilterPlan) (plan : AppenderPlan)
      (made : Filtered (Locked A) F) (old new : P) : Type 0 where
    pub named : name_of made ≡ name
    pub filters : BuildsFilters name plans (filters_of made) old new
    pub lock : IsLockOf in_force (name, effective around plan) (appender_of made)

  -- what is kept is shared, and of the components its filters alone are taken
  abbrev pub Shares : List (InForce A) → Text → List FilterPlan → AppenderPlan
      → Result (Filtered (Locked A) F) Refusal → P → P → Type 0
  Shares in_force name plans plan (Ok made) old new =
      IsShared in_force name plans plan made old new
  Shares in_force name plans plan (Err Memory) old new = ⊤
  Shares in_force name plans plan (Err refusal) old new = ⊥

  -- anything else is built, and put behind a lock of its own
  abbrev pub BuildsLocked : Text → List FilterPlan → AppenderPlan
      → Result (Filtered (Locked A) F) Refusal → P → P → Type 0
  BuildsLocked name plans plan (Ok made) old new =
      (built : Filtered A F)
      × Builds name plans plan (Ok built) old new
      × (name_of made ≡ name_of built)
      × (began_as (appender_of made) ≡ appender_of built)
      × (filters_of made ≡ filters_of built)
  BuildsLocked name plans plan (Err Memory) old new = ⊤
  BuildsLocked name plans plan (Err refusal) old new = Builds name plans plan (Err refusal) old new

  -- an appender of a plan: shared where it is kept, and built where it is not
  pub record KeepsOrBuilds
      (name : Text) (plans : List FilterPlan) (plan : AppenderPlan)
      (result : Result (Filtered (Locked A) F) Refusal) (old new : Keeping P A) : Type 0 where
    pub kept : IsKept (map planned old.in_force.items) (name, effective around plan)
        → Shares old.in_force.items name plans plan result old.parts new.parts
    pub anew : ¬ IsKept (map planned old.in_force.items) (name, effective around plan)
        → BuildsLocked name plans plan result old.parts new.parts
    pub stays : new.in_force ≡ old.in_force

  -- a configuration of what is asked for, beside appenders that are in force still:
  -- those of them are kept that are asked for
  pub record IsLoadedBeside
      {X : Type 0} (top : TopOf X) (asked : List (Text × Asked)) (still : List (InForce A))
      (config : ConfigOf (Locked A) F) (errors : List Error) (found : List Fault)
      (old new : P) : Type 0 where
    pub before : Keeping P A
    pub after : Keeping P A
    pub handed : before.parts ≡ old
    pub stand : before.in_force.items ≡ still
    pub left : new ≡ after.parts
    pub loaded : IsLoaded (λ appenders noted. BuildsEach KeepsOrBuilds asked appenders noted
        before after) top config errors found

  -- over how components are made anew, and how many wait then
  module _ {R : Type 0}
      (Refills : R → P → P → Type 0) (waiting : P → Text → Waiting)
      (made : Option ℕ) (in_force : List (InForce A)) (earlier later : History A)
      (old new : DeserializersWith P R) where
    -- what is asked for was built beside what is in force still, after what leaves was retired,
    -- and it tells what leaves
    pub record IsRebuilt
        (top : TopSettings)
        (loaded : LoadedText (Rebuilt (ConfigOf (Locked A) F) A) (List Error) (List Fault))
        : Type 0 where
      pub filled : P
      pub refilled : Refills (part_makers_of old) (handed_of old) filled
      pub still : List (InForce A)
      pub retires : Retires
          (planned_in around (appenders_asked (kinds_in old) (waiting filled) top.appenders))
          in_force made earlier later still (leaving_in loaded.config)
      pub built : IsLoadedBeside top
          (appenders_asked (kinds_in old) (waiting filled) top.appenders) still
          loaded.config.config loaded.appender_errors loaded.config_errors filled (handed_of new)
      pub rate : loaded.rate ≡ top.rate

    -- a text that asks for these settings gives a configuration of them and a rate;
    -- another text gives nothing, and nothing is taken
    abbrev pub GivesBeside : Result TopSettings TextFault
        → Option (LoadedText (Rebuilt (ConfigOf (Locked A) F) A) (List Error) (List Fault)) → Type 0
    GivesBeside (Ok top) (Some loaded) = IsRebuilt top loaded
    GivesBeside (Err fault) None = handed_of new ≡ handed_of old
    GivesBeside said given = ⊥
