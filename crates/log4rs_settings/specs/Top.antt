-- The top part of a configuration.
use Rattle.std.specs.Prelude.{ℕ, List, [], ◌∷◌, map as each, codes, Option, None, Result, Ok, Vec}
use Rattle.std.specs.Prelude.{string_bytes}
use Rattle.std.specs.declared.alloc.Global.{Global}
use Rattle.log4rs_settings.specs.Data.{Data, Members, no_members, member}
use Rattle.log4rs_settings.specs.Fields.{◌>>=◌, only_known, given}
use Rattle.log4rs_settings.specs.Part.{Part, within, in_object, or_bad, read_or, optional}
use Rattle.log4rs_settings.specs.Members.{get_member}
use Rattle.log4rs_settings.specs.Values.{as_members, as_rate}
use Rattle.log4rs_settings.specs.Component.{AppenderSettings, appender_view, read_appender}
use Rattle.log4rs_settings.specs.Loggers.{RootSettings, root_view, root_found, LoggerSettings}
use Rattle.log4rs_settings.specs.Loggers.{loggers_view, read_logger}
use Rattle.log4rs_settings.specs.declared.top.NamedAppender.{NamedAppender}
use Rattle.log4rs_settings.specs.declared.top.TopConfig.{TopConfig}

-- each member with its key, in order, or the first fault, below the key of its member
abbrev pub each_member : {A : Type 0}
    → (Data → Result A Part) → Members → Result (List (List ℕ × A)) Part
each_member read no_members = Ok []
each_member read (member k d ms) =
    within k (read d) >>= (λ x. each_member read ms >>= (λ xs. Ok ((k, x) ∷ xs)))

-- an appender's name and its settings, as data
abbrev pub entry_view : NamedAppender → List ℕ × AppenderSettings
entry_view a = (string_bytes a.name, appender_view a.config)

abbrev pub named_view : Vec NamedAppender Global → List (List ℕ × AppenderSettings)
named_view v = each entry_view v.items

-- the appenders, and the loggers, that are found, none where they are absent or null
abbrev pub appenders_found : Option Data → Result (List (List ℕ × AppenderSettings)) Part
appenders_found d =
    within (codes "appenders")
    (read_or (codes "appenders") as_members no_members (given d) >>= each_member read_appender)

abbrev pub loggers_found : Option Data → Result (List (List ℕ × LoggerSettings)) Part
loggers_found d =
    within (codes "loggers")
    (read_or (codes "loggers") as_members no_members (given d) >>= each_member read_logger)

-- the rate in milliseconds, the root, the appenders by their names, and the loggers
pub record TopOf (A : Type 0) : Type 0 where
  pub rate : Option ℕ
  pub root : RootSettings
  pub appenders : List (List ℕ × A)
  pub loggers : List (List ℕ × LoggerSettings)

-- a configuration as its text has it
abbrev pub TopSettings : Type 0
TopSettings = TopOf AppenderSettings

abbrev pub top_view : TopConfig → TopSettings
top_view t =
    record {
      rate = t.refresh_rate;
      root = root_view t.root;
      appenders = named_view t.appenders;
      loggers = loggers_view t.loggers;
    }

-- a configuration
abbrev pub read_top : Data → Result TopSettings Part
read_top d =
    or_bad (codes "configuration") d (as_members d) >>= (λ ms.
    in_object (only_known
    (codes "refresh_rate" ∷ codes "root" ∷ codes "appenders" ∷ codes "loggers" ∷ []) ms) >>= (λ _.
    optional (codes "refresh_rate") as_rate None ms >>= (λ rate.
    root_found (get_member (codes "root") ms) >>= (λ root.
    appenders_found (get_member (codes "appenders") ms) >>= (λ appenders.
    loggers_found (get_member (codes "loggers") ms) >>= (λ loggers.
    Ok (record { rate = rate; root = root; appenders = appenders; loggers = loggers })))))))
