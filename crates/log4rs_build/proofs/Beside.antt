-- What is built of plans is built of what they are the plans of.
use Rattle.std.proofs.Common.{◌≡◌, List, Result, Err, subst}
use Rattle.log4rs_base.specs.Text.{Text}
use Rattle.log4rs_append.specs.declared.locked.Locked.{Locked}
use Rattle.log4rs_config.specs.Faults.{Fault}
use Rattle.log4rs_config.specs.declared.runtime.appender.Filtered.{Filtered}
use Rattle.log4rs_config.specs.declared.runtime.config.ConfigOf.{ConfigOf}
use Rattle.log4rs_settings.specs.Makers.{Kinds}
use Rattle.log4rs_settings.specs.Plan.{AppenderPlan}
use Rattle.log4rs_settings.specs.Top.{TopSettings}
use Rattle.log4rs_settings.specs.declared.plan.FilterPlan.{FilterPlan}
use Rattle.log4rs_settings.specs.declared.plan.Waiting.{Waiting}
use Rattle.log4rs_plans.specs.Plans.{Plans, appenders_asked, plans_of}
use Rattle.log4rs_plans.specs.declared.surroundings.Surroundings.{Surroundings}
use Rattle.log4rs_build.specs.Kept.{BuildsLocked, IsLoadedBeside}
use Rattle.log4rs_plans.specs.Outcomes.{Error}
use Rattle.log4rs_parts.specs.declared.build_appender.Refusal.{Refusal}
use Rattle.log4rs_parts.specs.declared.build_appender.Refusal.TheVariants.{Roller, Store, Memory}
use Rattle.log4rs_build.specs.declared.in_force.InForce.{InForce}

module _ {P A F : Type 0}
    (Builds : Text → List FilterPlan → AppenderPlan → Result (Filtered A F) Refusal → P → P → Type 0)
    (BuildsFilters : Text → List FilterPlan → List F → P → P → Type 0) (around : Surroundings) where
  pub by_plans : (kinds : Kinds) (waiting : Text → Waiting) (top : TopSettings) (plans : Plans) (still : List (InForce A))
      (config : ConfigOf (Locked A) F) (errors : List Error) (found : List Fault) (old new : P) → plans ≡ plans_of kinds waiting top
      → IsLoadedBeside Builds BuildsFilters around plans plans.appenders still config errors found old new
      → IsLoadedBeside Builds BuildsFilters around top (appenders_asked kinds waiting top.appenders) still config errors found old new
  by_plans kinds waiting top plans still config errors found old new is h =
      let Q : Plans → Type 0 = λ p. IsLoadedBeside Builds BuildsFilters around p p.appenders still config errors found old new in
      let there = subst Q is h in
      record {
        before = there.before;
        after = there.after;
        handed = there.handed;
        stand = there.stand;
        left = there.left;
        loaded = record {
          appenders = there.loaded.appenders;
          built = there.loaded.built;
          behind = there.loaded.behind;
          settings = there.loaded.settings;
          reported = there.loaded.reported;
        };
      }

  -- what is not built has no lock
  pub none_locked : (name : Text) (plans : List FilterPlan) (plan : AppenderPlan) (refusal : Refusal) (old new : P)
      → Builds name plans plan (Err refusal) old new → BuildsLocked Builds BuildsFilters around name plans plan (Err refusal) old new
  none_locked name plans plan (Roller error) old new h = h
  none_locked name plans plan Store old new h = h
  none_locked name plans plan Memory old new h = tt
