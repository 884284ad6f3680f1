-- What a fault of settings says: which field it is about, or which kind.
use Rattle.std.specs.Prelude.{ℕ, List, string_bytes}
use Rattle.log4rs_base.specs.declared.error.LogError.{LogError}
use Rattle.log4rs_base.specs.declared.error.RollerError.{RollerError}
use Rattle.log4rs_settings.specs.declared.part.ConfigFault.{ConfigFault}
use Rattle.log4rs_settings.specs.declared.part.ConfigFault.TheVariants.{UnknownKind, UnknownField}
use Rattle.log4rs_settings.specs.declared.part.ConfigFault.TheVariants.{MissingField, BadValue}
use Rattle.log4rs_settings.specs.declared.part.ConfigFault.TheVariants.{Interval, Roller, Log}

pub data Fault : Type 0 where
  unknown_kind : List ℕ → List ℕ → Fault
  unknown_field : List ℕ → Fault
  missing_field : List ℕ → Fault
  bad_value : List ℕ → Fault
  bad_interval : Fault
  roller_refused : RollerError → Fault
  log_refused : LogError → Fault

-- a fault, with its names as bytes
abbrev pub fault_of : ConfigFault → Fault
fault_of (UnknownKind class kind) = unknown_kind class.now (string_bytes kind)
fault_of (UnknownField name) = unknown_field (string_bytes name)
fault_of (MissingField name) = missing_field name.now
fault_of (BadValue name) = bad_value name.now
fault_of Interval = bad_interval
fault_of (Roller error) = roller_refused error
fault_of (Log error) = log_refused error
