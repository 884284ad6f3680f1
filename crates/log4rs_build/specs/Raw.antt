-- What the text of a configuration says.
use Rattle.std.specs.Prelude.{◌≡◌, ℕ, List, [], map, None, Result, Ok, Err, ⊤}
use Rattle.log4rs_base.specs.Text.{Text}
use Rattle.log4rs_config.specs.Settings.{RootSetting, LoggerSetting}
use Rattle.log4rs_config.specs.declared.runtime.error.BuildError.{BuildError}
use Rattle.log4rs_config.specs.declared.runtime.error.BuildError.TheVariants.{Errors}
use Rattle.log4rs_config.specs.declared.runtime.error.BuildError.TheVariants as build
use Rattle.log4rs_settings.specs.Part.{Part, part_of}
use Rattle.log4rs_settings.specs.Loggers.{LoggerSettings, RootSettings, default_root}
use Rattle.log4rs_settings.specs.Top.{TopOf, TopSettings, top_view, read_top}
use Rattle.log4rs_settings.specs.declared.formats.FormatError.{FormatError}
use Rattle.log4rs_settings.specs.declared.formats.FormatError.TheVariants as formats
use Rattle.log4rs_settings.specs.declared.load.LoadError.{LoadError}
use Rattle.log4rs_settings.specs.declared.load.LoadError.TheVariants as load
use Rattle.log4rs_settings.specs.declared.source.SourceError.{SourceError}
use Rattle.log4rs_settings.specs.declared.source.SourceError.TheVariants.{Refused}
use Rattle.log4rs_settings.specs.declared.source.SourceError.TheVariants as sources
use Rattle.log4rs_settings.specs.Data.{Data}
use Rattle.log4rs_settings.specs.Placeless.{placeless}
use Rattle.log4rs_settings.specs.Text.{tree_of_text}
use Rattle.log4rs_settings.specs.declared.text.TextError.{TextError}
use Rattle.log4rs_settings.specs.declared.text.Format.{Format}
use Rattle.log4rs_build.specs.declared.error.InitError.{InitError}
use Rattle.log4rs_build.specs.declared.error.InitError.TheVariants as init
use Rattle.log4rs_build.specs.declared.error.ParseError.TheVariants as parse
use Rattle.log4rs_build.specs.declared.raw.RawConfig.{RawConfig}

-- what a configuration asks for
abbrev pub asked_by : RawConfig → TopSettings
asked_by raw = top_view raw.top

-- a configuration that asks for nothing
abbrev pub nothing_asked : TopSettings
nothing_asked = record { rate = None; root = default_root; appenders = []; loggers = [] }

-- why a text is no configuration:
-- it is no tree, without the place of the fault,
-- or its top part has a fault, with its place and its value
pub data TextFault : Type 0 where
  no_tree : TextError → TextFault
  bad_settings : Part → TextFault

abbrev settings_or : Result TopSettings Part → Result TopSettings TextFault
settings_or (Ok top) = Ok top
settings_or (Err fault) = Err (bad_settings fault)

abbrev settings_from : Result Data TextError → Result TopSettings TextFault
settings_from (Ok tree) = settings_or (read_top tree)
settings_from (Err error) = Err (no_tree error)

-- the configuration that a text is
abbrev pub settings_in : Format → List ℕ → Result TopSettings TextFault
settings_in format text = settings_from (tree_of_text format text)

-- the refusal of a text says what is wrong with it
abbrev pub IsParseFault : Result TopSettings TextFault → InitError → Type 0
IsParseFault said (init.Parse (parse.Text error)) = said ≡ Err (no_tree (placeless error))
IsParseFault said (init.Parse (parse.Value place error)) = said ≡ Err (no_tree (placeless error))
IsParseFault said (init.Parse (parse.Settings fault)) = said ≡ Err (bad_settings (part_of fault))
IsParseFault said init.Memory = ⊤
IsParseFault said _ = ⊥

-- the refusal of a configuration that could not be built
abbrev pub refused_by : BuildError → InitError
refused_by (Errors errors) = init.BuildConfig errors
refused_by build.Memory = init.Memory

-- the refusals of a path, and of a source
abbrev pub format_refused : FormatError → InitError
format_refused formats.Memory = init.Memory
format_refused error = init.Format error

abbrev pub source_refused : SourceError → InitError
source_refused Refused = init.Read Refused
source_refused sources.Memory = init.Memory

-- what is told of a text that is not loaded
abbrev pub load_refused : InitError → LoadError
load_refused init.Memory = load.Memory
load_refused error = load.Refused

-- the root and the loggers that are asked for
abbrev pub root_from : RootSettings → RootSetting
root_from root = record { level = root.level; appenders = root.appenders }

abbrev pub root_asked : {X : Type 0} → TopOf X → RootSetting
root_asked top = root_from top.root

abbrev pub logger_asked : Text × LoggerSettings → LoggerSetting
logger_asked l =
    record { name = l.0; level = l.1.level; appenders = l.1.appenders; additive = l.1.additive }

abbrev pub loggers_asked : {X : Type 0} → TopOf X → List LoggerSetting
loggers_asked top = map logger_asked top.loggers
