-- The parts of a configuration without faults.
use Rattle.std.specs.Prelude.{Bool, not, if◌then◌else◌, List, [], ◌∷◌, map, filter}
use Rattle.log4rs_base.specs.Text.{Text}
use Rattle.log4rs_config.specs.Name.{is_valid}
use Rattle.log4rs_config.specs.Settings.{Settings, RootSetting, LoggerSetting, is_among}

-- the first item of each name that is not in `earlier`
abbrev pub firsts : {X : Type 0} → (X → Text) → List Text → List X → List X
firsts name earlier [] = []
firsts name earlier (x ∷ xs) =
    if is_among earlier (name x) then firsts name earlier xs
    else x ∷ firsts name (name x ∷ earlier) xs

-- whether each name stands neither in `earlier` nor before itself
abbrev pub are_first : List Text → List Text → List Bool
are_first earlier [] = []
are_first earlier (name ∷ names) = not (is_among earlier name) ∷ are_first (name ∷ earlier) names

-- a logger without its unknown appenders
abbrev pub with_known : List Text → LoggerSetting → LoggerSetting
with_known known logger = record logger { appenders = filter (is_among known) logger.appenders }

-- what is kept, where these appender names are:
-- the known names of each list, and of each logger name the first if it is valid
abbrev pub kept_with : List Text → RootSetting → List LoggerSetting → Settings
kept_with names root loggers = record {
  appenders = names;
  root = record { level = root.level; appenders = filter (is_among names) root.appenders };
  loggers =
      map (with_known names)
      (filter (λ logger. is_valid logger.name) (firsts (λ logger. logger.name) [] loggers));
}

-- what is kept: of each appender name the first, and what is kept with these
abbrev pub kept : Settings → Settings
kept s = kept_with (firsts (λ name. name) [] s.appenders) s.root s.loggers
