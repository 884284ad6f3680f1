-- What a time trigger is after a call.
use Rattle.std.specs.Prelude.{Bool, Result, Ok, Err, IsOk, IfOk}
use Rattle.log4rs_base.specs.declared.record.Context.{Context}
use Rattle.log4rs_base.specs.declared.error.LogError.{LogError}
use Rattle.log4rs_rolling.specs.declared.time_trigger.TimeTrigger.{TimeTrigger}
use Rattle.log4rs_rolling.specs.Asking.{answer_in}
use Rattle.log4rs_rolling.specs.TimeTriggers.{IsTimeStep, TimeNotes}

failed : (e : LogError) → IsOk {T = Bool} {E = LogError} (Err e) → ⊥
failed e h = cc

pub time_notes : (c : Context) (before now : TimeTrigger) (result : Result Bool LogError) → IsOk result → IfOk result (λ answer. IsTimeStep before c answer now) → TimeNotes c before (answer_in result) now
time_notes c before now (Ok b) ok step = step
time_notes c before now (Err fault) ok step = absurd (failed fault ok)
