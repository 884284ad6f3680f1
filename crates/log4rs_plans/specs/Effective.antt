-- What appenders are to be in some surroundings.
use Rattle.std.specs.Prelude.{List, Option, Some, None, Ok, Err, Result, string_bytes}
use Rattle.std.specs.List.{filter_map}
use Rattle.jiff.specs.Words.{plain_zone}
use Rattle.log4rs_base.specs.Names.{expanded_names}
use Rattle.log4rs_base.specs.Text.{Text}
use Rattle.log4rs_base.specs.Times.{expanded_time}
use Rattle.log4rs_settings.specs.Part.{Part}
use Rattle.log4rs_settings.specs.Plan.{AppenderPlan, appender_of, file, rolling_file}
use Rattle.log4rs_plans.specs.Plans.{Asked}
use Rattle.log4rs_plans.specs.declared.surroundings.PlannedAppender.{PlannedAppender}
use Rattle.log4rs_plans.specs.declared.surroundings.Surroundings.{Surroundings}

-- the path of a file, with the values of the environment and then with times in it
abbrev pub path_in : Surroundings → Text → Text
path_in around path =
    expanded_time (plain_zone around.zone) around.moment.nanosecond (expanded_names around.env path)

-- what an appender is to be, with the values of the environment and the times in its path;
-- the names of archives are compared as their pattern is written
abbrev pub effective : Surroundings → AppenderPlan → AppenderPlan
effective around (file path append encoder) = file (path_in around path) append encoder
effective around (rolling_file path append encoder policy) =
    rolling_file (expanded_names around.env path) append encoder policy
effective around plan = plan

-- the path of its file, if it has one
abbrev pub path_of : AppenderPlan → Option Text
path_of (file path append encoder) = Some path
path_of (rolling_file path append encoder policy) = Some path
path_of _ = None

-- an appender that is to be: its name and its effective plan
abbrev pub Planned : Type 0
Planned = Text × AppenderPlan

abbrev pub planned_of : PlannedAppender → Planned
planned_of appender = (string_bytes appender.name, appender_of appender.plan)

-- what is to be of one that is asked for: none if its settings have a fault
abbrev pub if_planned : Surroundings → Text → Result AppenderPlan Part → Option Planned
if_planned around name (Ok plan) = Some (name, effective around plan)
if_planned around name (Err fault) = None

-- all that are to be, in order
abbrev pub planned_in : Surroundings → List (Text × Asked) → List Planned
planned_in around appenders =
    filter_map (λ (a : Text × Asked). if_planned around a.0 a.1.plan) appenders
