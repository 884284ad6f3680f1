-- What the settings of a configuration ask for: a plan, or a fault at its place, of each part.
use Rattle.std.specs.Prelude.{ℕ, ◌-◌, Bool, List, [], ◌∷◌, map, Result, Ok, Err}
use Rattle.std.specs.List.{list_all}
use Rattle.std.specs.Result.{is_ok}
use Rattle.log4rs_base.specs.Text.{Text}
use Rattle.log4rs_settings.specs.Appenders.{appender_plan}
use Rattle.log4rs_settings.specs.Component.{AppenderSettings, Component}
use Rattle.log4rs_settings.specs.Makers.{Kinds}
use Rattle.log4rs_settings.specs.Part.{Part}
use Rattle.log4rs_settings.specs.Plan.{AppenderPlan}
use Rattle.log4rs_settings.specs.Rules.{filter_plan}
use Rattle.log4rs_settings.specs.Top.{TopOf, TopSettings}
use Rattle.log4rs_settings.specs.declared.plan.FilterPlan.{FilterPlan}
use Rattle.log4rs_settings.specs.declared.plan.FilterPlan.TheVariants.{Threshold, HandedIn}
use Rattle.log4rs_settings.specs.declared.plan.Waiting.{Waiting}

-- how many handed-in filters wait after one that was asked for
abbrev pub left_after : ℕ → Result FilterPlan Part → ℕ
left_after waiting (Ok HandedIn) = waiting - 1
left_after waiting (Ok (Threshold level)) = waiting
left_after waiting (Err fault) = waiting

-- what the filters of an appender ask for, in order
abbrev pub filter_plans : Kinds → ℕ → List Component → List (Result FilterPlan Part)
filter_plans kinds waiting [] = []
filter_plans kinds waiting (c ∷ cs) =
    filter_plan kinds waiting c
    ∷ filter_plans kinds (left_after waiting (filter_plan kinds waiting c)) cs

-- what an appender's settings ask for: its filters, and itself
pub record Asked : Type 0 where
  pub filters : List (Result FilterPlan Part)
  pub plan : Result AppenderPlan Part

-- no filter of these appenders has a fault
abbrev pub all_filters_good : List (Text × Asked) → Bool
all_filters_good appenders = list_all (λ (a : Text × Asked). list_all is_ok a.1.filters) appenders

-- each appender by its name, with the root, the loggers and the rate
abbrev pub Plans : Type 0
Plans = TopOf Asked

-- over the makers of kinds, and how many components were handed in for a name
module _ (kinds : Kinds) (waiting : Text → Waiting) where
  abbrev pub asked : Text × AppenderSettings → Text × Asked
  asked a = (
    a.0,
    record {
      filters = filter_plans kinds (waiting a.0).filters a.1.filters;
      plan = appender_plan kinds (waiting a.0) a.1.kind a.1.config;
    },
  )

  abbrev pub appenders_asked : List (Text × AppenderSettings) → List (Text × Asked)
  appenders_asked appenders = map asked appenders

  -- what a configuration asks for
  abbrev pub plans_of : TopSettings → Plans
  plans_of top = record {
    rate = top.rate;
    root = top.root;
    appenders = appenders_asked top.appenders;
    loggers = top.loggers;
  }
