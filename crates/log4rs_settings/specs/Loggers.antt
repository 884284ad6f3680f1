-- The root and the loggers of a configuration.
use Rattle.std.specs.Prelude.{ℕ, Bool, true, List, [], ◌∷◌, map as each, codes, Option, Some, None}
use Rattle.std.specs.Prelude.{Result, Ok, String, Vec, string_bytes}
use Rattle.std.specs.declared.alloc.Global.{Global}
use Rattle.log.specs.declared.level.LevelFilter.{LevelFilter}
use Rattle.log.specs.declared.level.LevelFilter.TheVariants.{Debug}
use Rattle.log4rs_settings.specs.Data.{Data, no_items}
use Rattle.log4rs_settings.specs.Fields.{◌>>=◌, only_known, given}
use Rattle.log4rs_settings.specs.Part.{Part, within, or_bad, found_or, required}
use Rattle.log4rs_settings.specs.Part.{optional, in_object, each_item}
use Rattle.log4rs_settings.specs.Members.{get_member}
use Rattle.log4rs_settings.specs.Values.{as_bool, as_level, as_list, as_members, as_text}
use Rattle.log4rs_settings.specs.declared.top.RootConfig.{RootConfig}
use Rattle.log4rs_settings.specs.declared.top.LoggerConfig.{LoggerConfig}
use Rattle.log4rs_settings.specs.declared.top.NamedLogger.{NamedLogger}

-- the names of appenders that are found, none where they are absent or null
abbrev pub read_name : Data → Result (List ℕ) Part
read_name d = or_bad (codes "appenders") d (as_text d)

abbrev pub names_found : Option Data → Result (List (List ℕ)) Part
names_found d =
    found_or (codes "appenders") as_list no_items d >>= (λ ds.
    within (codes "appenders") (each_item read_name 0 ds))

abbrev pub names_view : Vec (String Global) Global → List (List ℕ)
names_view v = each string_bytes v.items

-- the root's level and the names of its appenders
pub record RootSettings : Type 0 where
  pub level : LevelFilter
  pub appenders : List (List ℕ)

abbrev pub root_view : RootConfig → RootSettings
root_view r = record { level = r.level; appenders = names_view r.appenders }

-- the root of a configuration
abbrev pub read_root : Data → Result RootSettings Part
read_root d =
    or_bad (codes "root") d (as_members d) >>= (λ ms.
    in_object (only_known (codes "level" ∷ codes "appenders" ∷ []) ms) >>= (λ _.
    optional (codes "level") as_level Debug ms >>= (λ level.
    names_found (get_member (codes "appenders") ms) >>= (λ appenders.
    Ok (record { level = level; appenders = appenders })))))

-- a root that is not told
abbrev pub default_root : RootSettings
default_root = record { level = Debug; appenders = [] }

abbrev pub root_from : Option Data → Result RootSettings Part
root_from None = Ok default_root
root_from (Some d) = read_root d

abbrev pub root_found : Option Data → Result RootSettings Part
root_found d = within (codes "root") (root_from (given d))

-- a logger's level, the names of its appenders, and whether those of its parent are its own too
pub record LoggerSettings : Type 0 where
  pub level : LevelFilter
  pub appenders : List (List ℕ)
  pub additive : Bool

abbrev pub logger_view : LoggerConfig → LoggerSettings
logger_view l =
    record { level = l.level; appenders = names_view l.appenders; additive = l.additive }

-- a logger, whose level must be given
abbrev pub read_logger : Data → Result LoggerSettings Part
read_logger d =
    or_bad (codes "logger") d (as_members d) >>= (λ ms.
    in_object (only_known (codes "level" ∷ codes "appenders" ∷ codes "additive" ∷ []) ms) >>= (λ _.
    required (codes "level") as_level ms >>= (λ level.
    names_found (get_member (codes "appenders") ms) >>= (λ appenders.
    optional (codes "additive") as_bool true ms >>= (λ additive.
    Ok (record { level = level; appenders = appenders; additive = additive }))))))

-- a logger's name and its settings, as data
abbrev pub logger_entry : NamedLogger → List ℕ × LoggerSettings
logger_entry l = (string_bytes l.name, logger_view l.config)

abbrev pub loggers_view : Vec NamedLogger Global → List (List ℕ × LoggerSettings)
loggers_view v = each logger_entry v.items
