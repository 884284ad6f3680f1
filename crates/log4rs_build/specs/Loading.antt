-- What texts and files configure.
use Rattle.std.specs.Prelude.{◌≡◌, ℕ, List, Option, Some, None, Result, Ok, Err, ⊤}
use Rattle.log4rs_config.specs.Faults.{Fault}
use Rattle.log4rs_config.specs.declared.runtime.appender.Filtered.{Filtered}
use Rattle.log4rs_config.specs.declared.runtime.config.ConfigOf.{ConfigOf}
use Rattle.log4rs_settings.specs.Top.{TopSettings}
use Rattle.log4rs_plans.specs.Outcomes.{Error}
use Rattle.log4rs_settings.specs.Answers.{Answered, has_text, no_text, ToldOne}
use Rattle.log4rs_settings.specs.Named.{fault_of, format_named}
use Rattle.log4rs_settings.specs.declared.load.LoadedText.{LoadedText}
use Rattle.log4rs_settings.specs.declared.text.Format.{Format}
use Rattle.log4rs_build.specs.Asked.{IsLoaded}
use Rattle.log4rs_build.specs.Raw.{TextFault, settings_in, IsParseFault}
use Rattle.log4rs_build.specs.declared.error.InitError.{InitError}
use Rattle.log4rs_build.specs.declared.error.InitError.TheVariants as init

-- over which appenders are built of settings, with which errors
module _ {A F : Type 0} (Builds : TopSettings → List (Filtered A F) → List Error → Type 0) where
  -- a text that asks for these settings gives a configuration, faults and a rate;
  -- another text gives nothing, and nothing is taken
  abbrev pub GivesText : Type 0 → Result TopSettings TextFault
      → Option (LoadedText (ConfigOf A F) (List Error) (List Fault)) → Type 0
  GivesText NothingTaken (Ok top) (Some loaded) =
      IsLoaded (Builds top) top loaded.config loaded.appender_errors loaded.config_errors
      × (loaded.rate ≡ top.rate)
  GivesText NothingTaken (Err fault) None = NothingTaken
  GivesText NothingTaken said given = ⊥

-- a source was asked for its text once, and that asks for these settings,
-- in the format that an extension names
pub record IsRead
    (extension : Option (List ℕ)) (before after : Answered) (top : TopSettings) : Type 0 where
  pub format : Format
  pub text : List ℕ
  pub named : format_named extension ≡ Ok format
  pub told : ToldOne before after (has_text text)
  pub says : settings_in format text ≡ Ok top

-- why nothing is read: the extension names no format, and the source is not asked;
-- it refuses its text; or that is no configuration
abbrev pub RefusesToRead : Option (List ℕ) → Answered → Answered → InitError → Type 0
RefusesToRead extension before after (init.Format error) =
    (format_named extension ≡ Err (fault_of error)) × (after ≡ before)
RefusesToRead extension before after (init.Read error) =
    (format : Format) × (format_named extension ≡ Ok format) × ToldOne before after (no_text error)
RefusesToRead extension before after (init.Parse error) =
    (format : Format) × (text : List ℕ)
    × (format_named extension ≡ Ok format)
    × ToldOne before after (has_text text)
    × IsParseFault (settings_in format text) (init.Parse error)
RefusesToRead extension before after init.Memory = ⊤
RefusesToRead extension before after _ = ⊥
