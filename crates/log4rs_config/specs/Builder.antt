-- What a configuration is built of.
use Rattle.std.specs.Prelude.{Bool, List, [], map}
use Rattle.log.specs.declared.level.LevelFilter.TheVariants.{Off}
use Rattle.log4rs_base.specs.Filtering.{passes}
use Rattle.log4rs_base.specs.declared.filter.Response.{Response}
use Rattle.log4rs_base.specs.declared.record.Record.{Record}
use Rattle.log4rs_append.specs.Sink.{Sink}
use Rattle.log4rs_config.specs.declared.runtime.appender.Filtered.{Filtered}
use Rattle.log4rs_config.specs.declared.runtime.config.ConfigOf.{ConfigOf}
use Rattle.log4rs_config.specs.declared.runtime.builder.ConfigBuilderOf.{ConfigBuilderOf}
use Rattle.log4rs_config.specs.Appender.{name_of}
use Rattle.log4rs_config.specs.Settings.{Settings, RootSetting, LoggerSetting, settings_of}

-- the appenders given so far
abbrev pub given_appenders : {A F : Type 0} → ConfigBuilderOf A F → List (Filtered A F)
given_appenders b = b.appenders.items

-- the loggers given so far
abbrev pub given_loggers : {A F : Type 0} → ConfigBuilderOf A F → List LoggerSetting
given_loggers b = b.loggers.items

-- the settings of what was given, with a root
abbrev pub given_settings : {A F : Type 0} → ConfigBuilderOf A F → RootSetting → Settings
given_settings b root =
    settings_of (map (λ a. name_of a) (given_appenders b)) root (given_loggers b)

-- the settings of appenders alone: their names
abbrev pub names_alone : {A F : Type 0} → List (Filtered A F) → Settings
names_alone appenders = record {
  appenders = map (λ a. name_of a) appenders;
  root = record { level = Off; appenders = [] };
  loggers = [];
}

-- the appenders of a configuration, each at its place
abbrev pub appenders_of : {A F : Type 0} → ConfigOf A F → List (Filtered A F)
appenders_of c = c.appenders.items

-- the settings of a configuration
abbrev pub config_settings : {A F : Type 0} → ConfigOf A F → Settings
config_settings c = c.lists

-- whether a record passes the filters of each appender
abbrev pub admits_of : {A F : Type 0}
    → (F → Record → Response) → List (Filtered A F) → Record → List Bool
admits_of answer appenders r = map (λ a. passes (λ f. answer f r) a.filters.items) appenders

abbrev pub config_admits : {A F : Type 0}
    → (F → Record → Response) → ConfigOf A F → Record → List Bool
config_admits answer c = admits_of answer c.appenders.items

-- the sink of each appender
abbrev pub sinks_of : {A F : Type 0} → (A → Sink) → List (Filtered A F) → List Sink
sinks_of sink appenders = map (λ a. sink a.appender) appenders

abbrev pub config_sinks : {A F : Type 0} → (A → Sink) → ConfigOf A F → List Sink
config_sinks sink c = sinks_of sink c.appenders.items
