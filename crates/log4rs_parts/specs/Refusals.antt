-- Why no appender is built.
use Rattle.std.specs.Prelude.{Option, Some, None}
use Rattle.log4rs_base.specs.declared.error.LogError.{LogError}
use Rattle.log4rs_base.specs.declared.error.LogError.TheVariants as log
use Rattle.log4rs_base.specs.declared.error.RollerError.{RollerError}
use Rattle.log4rs_base.specs.declared.error.RollerError.TheVariants as roller
use Rattle.log4rs_settings.specs.Fault.{Fault, roller_refused, log_refused}
use Rattle.log4rs_parts.specs.declared.build_appender.Refusal.{Refusal}
use Rattle.log4rs_parts.specs.declared.build_appender.Refusal.TheVariants.{Roller, Store, Memory}

-- want of memory, or else the store's refusal
abbrev pub refused_by : LogError → Refusal
refused_by log.Memory = Memory
refused_by _ = Store

-- want of memory, or else the roller's refusal
abbrev pub refused_for : RollerError → Refusal
refused_for roller.Memory = Memory
refused_for error = Roller error

-- the fault that a refusal is reported as; want of memory is not reported
abbrev pub reported : Refusal → Option Fault
reported (Roller error) = Some (roller_refused error)
reported Store = Some (log_refused log.Store)
reported Memory = None
