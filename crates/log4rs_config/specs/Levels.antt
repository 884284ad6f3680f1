-- The levels of a configuration.
use Rattle.std.specs.Prelude.{if◌then◌else◌, true, List, [], ◌∷◌, ◌++◌, map}
use Rattle.std.specs.List.{list_any}
use Rattle.std.specs.Str.{bytes_eq}
use Rattle.log.specs.declared.level.LevelFilter.{LevelFilter}
use Rattle.log4rs_base.specs.Text.{Text}
use Rattle.log4rs_config.specs.Settings.{Settings, LoggerSetting}

-- the level of the root, and then those of the loggers
abbrev pub all_levels : Settings → List LevelFilter
all_levels s = s.root.level ∷ map (λ logger. logger.level) s.loggers

-- another level at a logger, if it has the name
abbrev pub leveled : Text → LevelFilter → LoggerSetting → LoggerSetting
leveled name level logger =
    if bytes_eq logger.name name then record logger { level = level } else logger

-- a logger that hands on to those above it, and has no appenders of its own
abbrev pub bare_logger : Text → LevelFilter → LoggerSetting
bare_logger name level = record { name = name; level = level; appenders = []; additive = true }

-- another level at the logger of a name; where there is none, a bare one more
abbrev pub with_level_at : List LoggerSetting → Text → LevelFilter → List LoggerSetting
with_level_at loggers name level =
    map (leveled name level) loggers
    ++ (if list_any (λ logger. bytes_eq logger.name name) loggers
    then [] else bare_logger name level ∷ [])

-- a configuration with another level at a name
abbrev pub with_level : Settings → Text → LevelFilter → Settings
with_level s name level = record s { loggers = with_level_at s.loggers name level }
