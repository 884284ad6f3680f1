-- Which archives appenders keep, and which roll their files in the background.
use Rattle.std.specs.Prelude.{nat_lt, Bool, false, List, Ok, Err, Option, Some, None, Result, if◌then◌else◌}
use Rattle.std.specs.List.{list_any}
use Rattle.std.specs.Option.{option_map_or}
use Rattle.log4rs_base.specs.Text.{Text}
use Rattle.log4rs_settings.specs.Part.{Part}
use Rattle.log4rs_settings.specs.Plan.{AppenderPlan, rolling_file, RollerPlan, fixed_window, delete, Window}
use Rattle.log4rs_plans.specs.Plans.{Asked}

-- the archives that a roller keeps, and an appender, if they keep any
abbrev pub kept_by : RollerPlan → Option Window
kept_by (fixed_window window) = if nat_lt 0 window.count then Some window else None
kept_by delete = None

abbrev pub kept : AppenderPlan → Option Window
kept (rolling_file path append encoder policy) = kept_by policy.roller
kept _ = None

-- an appender rolls its file in the background where it keeps archives and is asked to
abbrev pub rolls_in_background : AppenderPlan → Bool
rolls_in_background plan = option_map_or (λ window. window.background) (kept plan) false

-- settings with a fault ask for none
abbrev pub if_in_background : Result AppenderPlan Part → Bool
if_in_background (Ok plan) = rolls_in_background plan
if_in_background (Err fault) = false

-- one of these appenders does so
abbrev pub any_in_background : List (Text × Asked) → Bool
any_in_background appenders = list_any (λ (a : Text × Asked). if_in_background a.1.plan) appenders
