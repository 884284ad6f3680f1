-- Faults of configurations.
use Rattle.std.specs.Prelude.{not, if◌then◌else◌, List, [], ◌∷◌, ◌++◌, map, filter}
use Rattle.log4rs_base.specs.Text.{Text}
use Rattle.log4rs_config.specs.Name.{is_valid}
use Rattle.log4rs_config.specs.Settings.{Settings, LoggerSetting, is_among}

-- a fault of a configuration, with the name that it is about
pub data Fault : Type 0 where
  RepeatedAppender : Text → Fault
  UnknownAppender : Text → Fault
  RepeatedLogger : Text → Fault
  InvalidLogger : Text → Fault

-- the names that are in `earlier` or come again
abbrev pub repeats : List Text → List Text → List Text
repeats earlier [] = []
repeats earlier (name ∷ names) =
    if is_among earlier name then name ∷ repeats earlier names else repeats (name ∷ earlier) names

-- the names of a list that are unknown
abbrev pub unknown : List Text → List Text → List Text
unknown known names = filter (λ name. not (is_among known name)) names

-- the faults of a logger: a repeated name, else an invalid one, else its unknown appenders
abbrev pub logger_faults : List Text → List Text → LoggerSetting → List Fault
logger_faults known earlier logger =
    if is_among earlier logger.name then RepeatedLogger logger.name ∷ []
    else (if is_valid logger.name
    then map (λ name. UnknownAppender name) (unknown known logger.appenders)
    else InvalidLogger logger.name ∷ [])

-- logger by logger: a name counts as seen whether or not it is valid
abbrev pub loggers_faults : List Text → List Text → List LoggerSetting → List Fault
loggers_faults known earlier [] = []
loggers_faults known earlier (logger ∷ loggers) =
    logger_faults known earlier logger ++ loggers_faults known (logger.name ∷ earlier) loggers

-- the faults of a configuration, in order
abbrev pub faults : Settings → List Fault
faults s =
    map (λ name. RepeatedAppender name) (repeats [] s.appenders)
    ++ map (λ name. UnknownAppender name) (unknown s.appenders s.root.appenders)
    ++ loggers_faults s.appenders [] s.loggers
