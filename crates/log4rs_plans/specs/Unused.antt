-- What of a configuration logs nothing.
use Rattle.std.specs.Prelude.{Bool, not, ◌||◌, ◌==◌, List, [], ◌∷◌, ◌++◌, length, map, if◌then◌else◌, String, Vec, string_bytes}
use Rattle.std.specs.List.{list_any}
use Rattle.std.specs.Str.{bytes_eq}
use Rattle.std.specs.declared.alloc.Global.{Global}
use Rattle.log4rs_base.specs.Text.{Text}
use Rattle.log4rs_plans.specs.declared.asked.Plans.{Plans}
use Rattle.log4rs_plans.specs.Places.{each_at, if_so}
use Rattle.log4rs_plans.specs.declared.warnings.Warning.{Warning}
use Rattle.log4rs_plans.specs.declared.warnings.Warning.TheVariants.{NoAppender, RootNamesNone, Unused}

-- whether a name is one of these
abbrev pub is_in : Vec (String Global) Global → Text → Bool
is_in names name = list_any (λ other. bytes_eq (string_bytes other) name) names.items

module _ (plans : Plans) where
  -- whether the root or a logger names an appender
  abbrev pub is_named : Text → Bool
  is_named name =
      is_in plans.root.appenders name
      || list_any (λ logger. is_in logger.config.appenders name) plans.loggers.items

  -- the root, where it names no appender, and each appender that nothing names
  abbrev pub unnamed : List Warning
  unnamed =
      if_so (length plans.root.appenders.items == 0) RootNamesNone
      ++ each_at (λ place name. if_so (not (is_named name)) (Unused place))
      (map (λ appender. string_bytes appender.name) plans.appenders.items)

  -- that there is no appender, or what is unnamed
  abbrev pub unused_in : List Warning
  unused_in = if length plans.appenders.items == 0 then NoAppender ∷ [] else unnamed
