-- The appenders that settings ask for, and the configurations.
use Rattle.std.specs.Prelude.{◌≡◌, ◌≢◌, List, [], map, Result, Ok, Err, ⊤}
use Rattle.log4rs_base.specs.Text.{Text}
use Rattle.log4rs_config.specs.Appender.{name_of}
use Rattle.log4rs_config.specs.Builder.{appenders_of, config_settings}
use Rattle.log4rs_config.specs.Faults.{Fault, faults}
use Rattle.log4rs_config.specs.Lossy.{firsts, kept}
use Rattle.log4rs_config.specs.Settings.{Settings, settings_of}
use Rattle.log4rs_config.specs.declared.runtime.appender.Filtered.{Filtered}
use Rattle.log4rs_config.specs.declared.runtime.config.ConfigOf.{ConfigOf}
use Rattle.log4rs_settings.specs.Component.{AppenderSettings}
use Rattle.log4rs_settings.specs.Top.{TopOf}
use Rattle.log4rs_plans.specs.Plans.{appenders_asked}
use Rattle.log4rs_settings.specs.Plan.{AppenderPlan}
use Rattle.log4rs_settings.specs.declared.plan.FilterPlan.{FilterPlan}
use Rattle.log4rs_settings.specs.declared.plan.Waiting.{Waiting}
use Rattle.log4rs_build.specs.Deserializers.{kinds_in, handed_of, part_makers_of, KeepsMakers}
use Rattle.log4rs_build.specs.Lossy.{BuildsEach}
use Rattle.log4rs_parts.specs.declared.build_appender.Refusal.{Refusal}
use Rattle.log4rs_build.specs.declared.deserializers.DeserializersWith.{DeserializersWith}
use Rattle.log4rs_plans.specs.Outcomes.{Error}
use Rattle.log4rs_build.specs.Raw.{root_asked, loggers_asked}
use Rattle.log4rs_build.specs.declared.error.InitError.{InitError}
use Rattle.log4rs_build.specs.declared.error.InitError.TheVariants.{Deserializing, BuildConfig}
use Rattle.log4rs_build.specs.declared.error.InitError.TheVariants.{Memory}

-- each appender that settings ask for is built, of the components that wait, or has its faults
abbrev pub BuildsAppenders : {P R A F : Type 0}
    → (Text → List FilterPlan → AppenderPlan → Result (Filtered A F) Refusal → P → P → Type 0)
    → (P → Text → Waiting) → List (Text × AppenderSettings)
    → DeserializersWith P R → DeserializersWith P R
    → List (Filtered A F) → List Error → Type 0
BuildsAppenders builds waiting settings old new appenders errors =
    BuildsEach builds (appenders_asked (kinds_in old) (waiting (handed_of old)) settings)
    appenders errors (handed_of old) (handed_of new)

-- the same, once the components were made anew for another reading
abbrev pub BuildsAnew : {P R A F : Type 0} → (R → P → P → Type 0)
    → (Text → List FilterPlan → AppenderPlan → Result (Filtered A F) Refusal → P → P → Type 0)
    → (P → Text → Waiting) → List (Text × AppenderSettings)
    → DeserializersWith P R → DeserializersWith P R
    → List (Filtered A F) → List Error → Type 0
BuildsAnew {P = P} {R = R} refills builds waiting settings old new appenders errors =
    (filled : DeserializersWith P R)
    × refills (part_makers_of old) (handed_of old) (handed_of filled)
    × KeepsMakers old filled
    × BuildsAppenders builds waiting settings filled new appenders errors

-- the settings of a configuration with these appenders, and the root and loggers that are asked for
abbrev pub asked_with : {A F X : Type 0} → TopOf X → List (Filtered A F) → Settings
asked_with top appenders = settings_of (map name_of appenders) (root_asked top) (loggers_asked top)

-- over which appenders are built, with which errors
module _ {A F X : Type 0}
    (Builds : List (Filtered A F) → List Error → Type 0) (top : TopOf X) where
  -- a configuration of appenders that were all built,
  -- with the root and loggers that are asked for, which has no faults
  pub record IsCreated (config : ConfigOf A F) : Type 0 where
    pub built : Builds (appenders_of config) []
    pub settings : config_settings config ≡ asked_with top (appenders_of config)
    pub faultless : faults (asked_with top (appenders_of config)) ≡ []

  -- why none is created: faults of appenders and filters, or else faults of the whole
  abbrev pub IsRefused : InitError → Type 0
  IsRefused (Deserializing errors) =
      (appenders : List (Filtered A F)) × Builds appenders errors × (errors ≢ [])
  IsRefused (BuildConfig found) =
      (appenders : List (Filtered A F))
      × Builds appenders []
      × (found ≡ faults (asked_with top appenders))
      × (found ≢ [])
  IsRefused Memory = ⊤
  IsRefused _ = ⊥

  abbrev pub Creates : Result (ConfigOf A F) InitError → Type 0
  Creates (Ok config) = IsCreated config
  Creates (Err error) = IsRefused error

  -- the configuration of what has no fault, and the faults of what is left out
  pub record IsLoaded
      (config : ConfigOf A F) (errors : List Error) (found : List Fault) : Type 0 where
    pub appenders : List (Filtered A F)
    pub built : Builds appenders errors
    pub behind : appenders_of config ≡ firsts name_of [] appenders
    pub settings : config_settings config ≡ kept (asked_with top appenders)
    pub reported : found ≡ faults (asked_with top appenders)
