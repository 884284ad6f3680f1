-- The faults that are reported of appenders and their filters.
use Rattle.std.specs.Prelude.{◌≡◌, ℕ, Bool, true, false, List, [], ◌∷◌, map, Contains, Result, Ok, Err}
use Rattle.std.specs.Prelude.{Option, Some, None, string_bytes}
use Rattle.std.specs.List.{filter_map}
use Rattle.log4rs_base.specs.declared.error.LogError.TheVariants.{Store}
use Rattle.log4rs_settings.specs.Fault.{Fault, fault_of, log_refused}
use Rattle.log4rs_settings.specs.Part.{Part}
use Rattle.log4rs_settings.specs.declared.plan.FilterPlan.{FilterPlan}
use Rattle.log4rs_plans.specs.declared.faults.DeserializingConfigError.{DeserializingConfigError}
use Rattle.log4rs_plans.specs.declared.faults.DeserializingConfigError.TheVariants.{Appender}
use Rattle.log4rs_plans.specs.declared.faults.DeserializingConfigError.TheVariants.{Filter}

-- a fault of a configuration, with the name of the appender that it is about
pub data Error : Type 0 where
  in_appender : List ℕ → Fault → Error
  in_filter : List ℕ → Fault → Error

-- the fault of an appender leaves it out; that of a filter leaves out the filter alone
abbrev pub leaves_out : Error → Bool
leaves_out (in_appender name fault) = true
leaves_out (in_filter name fault) = false

-- a fault leaves the appender of this name out
abbrev pub LeavesOut : List ℕ → Error → Type 0
LeavesOut name (in_appender other fault) = other ≡ name
LeavesOut name (in_filter other fault) = ⊥

-- one of these faults does so
abbrev pub IsLeftOut : List ℕ → List Error → Type 0
IsLeftOut name errors = (error : Error) × Contains errors error × LeavesOut name error

-- the name of the appender whose file could not be opened, where that is the fault
abbrev pub refused_name : Error → Option (List ℕ)
refused_name (in_appender name (log_refused Store)) = Some name
refused_name _ = None

-- the names of those whose files could not be opened, in order
abbrev pub refused_names : List Error → List (List ℕ)
refused_names errors = filter_map refused_name errors

-- the good ones of the filters that an appender asks for
abbrev pub good : List (Result FilterPlan Part) → List FilterPlan
good [] = []
good (Ok f ∷ rs) = f ∷ good rs
good (Err p ∷ rs) = good rs

-- the faults of the bad ones, without their places
abbrev pub filter_errors : List ℕ → List (Result FilterPlan Part) → List Error
filter_errors name [] = []
filter_errors name (Ok f ∷ rs) = filter_errors name rs
filter_errors name (Err p ∷ rs) = in_filter name p.fault ∷ filter_errors name rs

-- a fault that is kept, with its name as bytes
abbrev pub error_of : DeserializingConfigError → Error
error_of (Appender name fault) = in_appender (string_bytes name) (fault_of fault)
error_of (Filter name fault) = in_filter (string_bytes name) (fault_of fault)

abbrev pub errors_of : List DeserializingConfigError → List Error
errors_of errors = map error_of errors
