-- What begins to read a configuration again, and what loggers are begun with.
use Rattle.std.specs.Prelude.{◌≡◌, ℕ, Bool, List, [], ◌∷◌, Option, Some, None, Result, Ok}
use Rattle.std.specs.List.{list_any}
use Rattle.std.specs.Result.{result_ok}
use Rattle.log4rs_config.specs.Builder.{appenders_of, config_settings}
use Rattle.log4rs_config.specs.Faults.{Fault}
use Rattle.log4rs_config.specs.Settings.{Settings}
use Rattle.log4rs_config.specs.declared.runtime.appender.Filtered.{Filtered}
use Rattle.log4rs_config.specs.declared.runtime.config.ConfigOf.{ConfigOf}
use Rattle.log4rs_plans.specs.Outcomes.{Error, leaves_out}
use Rattle.log4rs_build.specs.Asked.{asked_with, IsCreated, IsLoaded, IsRefused}
use Rattle.log4rs_build.specs.Raw.{settings_in}
use Rattle.log4rs_build.specs.declared.error.InitError.{InitError}
use Rattle.log4rs_settings.specs.Answers.{Answered, Told, has_text, modified_answer}
use Rattle.log4rs_settings.specs.Named.{format_named}
use Rattle.log4rs_settings.specs.Reload.{ReloaderState}
use Rattle.log4rs_settings.specs.declared.source.SourceError.{SourceError}
use Rattle.log4rs_settings.specs.Top.{TopSettings}
use Rattle.log4rs_settings.specs.declared.text.Format.{Format}

-- a text that asks for no rate is not read again;
-- one that asks for a rate is kept with it, and with the stamp that the source gives after the text
abbrev pub ReadsAgain : Format → List ℕ → Option ℕ → Answered → Answered
    → Option ReloaderState → Type 0
ReadsAgain format text None before after again =
    (again ≡ None) × Told before after (has_text text ∷ [])
ReadsAgain format text (Some rate) before after again =
    (stamp : Result ℕ SourceError)
    × Told before after (has_text text ∷ modified_answer stamp ∷ [])
    × (again
    ≡ Some (record { format = format; source = text; stamp = result_ok stamp; rate = Some rate }))

-- a source gave its text, which asks for these settings in the format that an extension names,
-- and whether it is read again
pub record Begins
    (extension : Option (List ℕ)) (before after : Answered)
    (top : TopSettings) (again : Option ReloaderState) : Type 0 where
  pub format : Format
  pub text : List ℕ
  pub named : format_named extension ≡ Ok format
  pub says : settings_in format text ≡ Ok top
  pub reads_again : ReadsAgain format text top.rate before after again

-- what the text of a source configures, over which appenders its settings build:
-- a configuration, the faults of what is left out, and whether it is read again
pub record LoadsFile
    {A F : Type 0} (Builds : TopSettings → List (Filtered A F) → List Error → Type 0)
    (extension : Option (List ℕ)) (before after : Answered) (config : ConfigOf A F)
    (errors : List Error) (found : List Fault) (again : Option ReloaderState) : Type 0 where
  pub top : TopSettings
  pub begins : Begins extension before after top again
  pub loaded : IsLoaded (Builds top) top config errors found

-- the same, whatever the source has answered then, for which faults parts were left out,
-- which components that were handed in are left, and whether an appender was left out
abbrev pub BeginsFile :
    {A F H : Type 0} → (H → TopSettings → List (Filtered A F) → List Error → Type 0)
    → Option (List ℕ) → Answered → ConfigOf A F → Option ReloaderState → Bool → Type 0
BeginsFile {H = H} Builds extension before config again left_out =
    (left : H) × (after : Answered) × (errors : List Error) × (found : List Fault)
    × LoadsFile (Builds left) extension before after config errors found again
    × (left_out ≡ list_any leaves_out errors)

-- over which appenders are built, with which errors
module _ {A F : Type 0}
    (Builds : List (Filtered A F) → List Error → Type 0)
    (top : TopSettings) (seen : ConfigOf A F → Settings) where
  -- a configuration was created as settings ask for,
  -- whose names, root and loggers are seen to be those that are asked for
  abbrev pub WasCreated : Type 0
  WasCreated =
      (config : ConfigOf A F)
      × IsCreated Builds top config
      × (seen config ≡ asked_with top (appenders_of config))

  -- why none was
  abbrev pub WasRefused : InitError → Type 0
  WasRefused = IsRefused Builds top

-- a configuration was loaded of what the text of a source configures, whose names, root and
-- loggers are seen to be those that were loaded, and whether the text is read again
abbrev pub WasLoaded :
    {A F : Type 0} → (TopSettings → List (Filtered A F) → List Error → Type 0)
    → (ConfigOf A F → Settings) → Option (List ℕ) → Answered → Answered
    → Option ReloaderState → Type 0
WasLoaded {A = A} {F = F} Builds seen extension before after again =
    (config : ConfigOf A F) × (errors : List Error) × (found : List Fault)
    × LoadsFile Builds extension before after config errors found again
    × (seen config ≡ config_settings config)
