-- The trigger that a run begins with.
use Rattle.std.specs.Prelude.{◌≡◌, ℕ, None, nat_le}
use Rattle.log4rs_base.specs.declared.record.Context.{Context}
use Rattle.log4rs_rolling.specs.Triggers.{limit_of, start_up_says}
use Rattle.log4rs_rolling.specs.TimeTriggers.{config_of, next_of}
use Rattle.log4rs_rolling.specs.declared.trigger.SizeTrigger.{SizeTrigger}
use Rattle.log4rs_rolling.specs.declared.trigger.OnStartUpTrigger.{OnStartUpTrigger}
use Rattle.log4rs_rolling.specs.declared.time_trigger.TimeTrigger.{TimeTrigger}
use Rattle.log4rs_rolling.specs.declared.trigger.AnyTriggerOf.TheVariants as any
use Rattle.log4rs_restarts.specs.Acts.{BuiltIn}
use Rattle.log4rs_restarts.specs.declared.settings.TriggerSettings.{TriggerSettings}
use Rattle.log4rs_restarts.specs.declared.settings.TriggerSettings.TheVariants.{Size, OnStartUp, Time}

-- a trigger of these settings that was not called yet
abbrev pub Begins : TriggerSettings → BuiltIn → Type 0
Begins (Size limit) trigger =
    (size : SizeTrigger) × (trigger ≡ any.Size size) × (limit_of size ≡ limit)
Begins (OnStartUp min_size) trigger =
    (start : OnStartUpTrigger)
    × (trigger ≡ any.OnStartUp start)
    × ((len : ℕ) (c : Context) → start_up_says start len c ≡ nat_le min_size len)
Begins (Time config) trigger =
    (time : TimeTrigger)
    × (trigger ≡ any.Time time)
    × (config_of time ≡ config)
    × (next_of time ≡ None)
