-- Configurations that are created, and refused.
use Rattle.std.proofs.Common.{◌≡◌, List, [], map, Result, Ok, Err, IfOk, sym, ap, ◌∙◌, subst}
use Rattle.log4rs_config.specs.Appender.{name_of}
use Rattle.log4rs_config.specs.Builder.{given_appenders, given_loggers, given_settings, appenders_of, config_settings}
use Rattle.log4rs_config.specs.Faults.{Fault, faults}
use Rattle.log4rs_config.specs.Refusal.{IsRefusal}
use Rattle.log4rs_config.specs.Settings.{Settings, RootSetting, settings_of}
use Rattle.log4rs_config.specs.declared.runtime.appender.Filtered.{Filtered}
use Rattle.log4rs_config.specs.declared.runtime.builder.ConfigBuilderOf.{ConfigBuilderOf}
use Rattle.log4rs_config.specs.declared.runtime.config.ConfigOf.{ConfigOf}
use Rattle.log4rs_config.specs.declared.runtime.error.BuildError.{BuildError}
use Rattle.log4rs_config.specs.declared.runtime.error.BuildError.TheVariants.{Errors, Memory}
use Rattle.log4rs_base.specs.Text.{Text}
use Rattle.log4rs_settings.specs.Makers.{Kinds}
use Rattle.log4rs_settings.specs.Top.{TopOf, TopSettings}
use Rattle.log4rs_settings.specs.declared.plan.Waiting.{Waiting}
use Rattle.log4rs_plans.specs.Plans.{plans_of}
use Rattle.log4rs_plans.specs.Outcomes.{Error}
use Rattle.log4rs_build.specs.Asked.{asked_with, IsCreated, IsLoaded, IsRefused}
use Rattle.log4rs_build.specs.Raw.{root_asked, loggers_asked, refused_by}

pub given : {A F X : Type 0} (top : TopOf X) (builder : ConfigBuilderOf A F) (root : RootSetting) (appenders : List (Filtered A F))
    → given_appenders builder ≡ appenders → given_loggers builder ≡ loggers_asked top → root ≡ root_asked top
    → given_settings builder root ≡ asked_with top appenders
given top builder root appenders a l r =
    ap (λ list. settings_of (map name_of list) root (given_loggers builder)) a
    ∙ ap (λ list. settings_of (map name_of appenders) root list) l
    ∙ ap (λ one. settings_of (map name_of appenders) one (loggers_asked top)) r

module _ {A F X : Type 0} (Builds : List (Filtered A F) → List Error → Type 0) (top : TopOf X) (appenders : List (Filtered A F)) (errors : List Error)
    (built : Builds appenders errors) (none : errors ≡ []) where
  pub created : (config : ConfigOf A F) → appenders_of config ≡ appenders → config_settings config ≡ asked_with top appenders
      → faults (asked_with top appenders) ≡ [] → IsCreated Builds top config
  created config same settings faultless = record {
    built = subst (λ l. Builds l []) (sym same) (subst (Builds appenders) none built);
    settings = settings ∙ ap (asked_with top) (sym same);
    faultless = ap (λ l. faults (asked_with top l)) same ∙ faultless;
  }

  pub build_refused : (settings : Settings) (error : BuildError) → settings ≡ asked_with top appenders → IsRefusal (faults settings) error
      → IsRefused Builds top (refused_by error)
  build_refused settings (Errors found) same h =
      (appenders, subst (Builds appenders) none built, h.0 ∙ ap faults same, λ e. h.1 (sym h.0 ∙ e))
  build_refused settings Memory same h = tt

-- what was loaded by the plans of settings
pub of_plans : {A F : Type 0} (Builds : List (Filtered A F) → List Error → Type 0) (kinds : Kinds) (waiting : Text → Waiting) (top : TopSettings) (config : ConfigOf A F) (errors : List Error)
    (found : List Fault) → IsLoaded Builds (plans_of kinds waiting top) config errors found → IsLoaded Builds top config errors found
of_plans Builds kinds waiting top config errors found is = record {
  appenders = is.appenders;
  built = is.built;
  behind = is.behind;
  settings = is.settings;
  reported = is.reported;
}

-- what follows of the value of a result
pub ok_with : {T E : Type 0} {P Q : T → Type 0} (r : Result T E) → IfOk r P → ((x : T) → P x → Q x) → IfOk r Q
ok_with (Ok x) is follows = follows x is
ok_with (Err e) is follows = tt
