-- The decisions of a time trigger, and its state after them.
use Rattle.std.specs.Prelude.{◌≡◌, ◌↔◌, ℕ, ℤ, Bool, IsTrue, Option, Some, None, option_map}
use Rattle.log4rs_base.specs.declared.record.Context.{Context}
use Rattle.log4rs_rolling.specs.NextTime.{nanos}
use Rattle.log4rs_base.specs.declared.dates.interval.TimeTriggerConfig.{TimeTriggerConfig}
use Rattle.log4rs_rolling.specs.Due.{IsDue, IsCurrent, IsNextAfter}
use Rattle.log4rs_rolling.specs.declared.time_trigger.TimeTrigger.{TimeTrigger}

abbrev pub config_of : TimeTrigger → TimeTriggerConfig
config_of trigger = trigger.config

-- the next time in nanoseconds, if there is one, once the trigger was called
abbrev pub next_of : TimeTrigger → Option (Option ℤ)
next_of trigger = option_map nanos trigger.next

-- it fires exactly if the time has come
abbrev pub TimeAnswers : TimeTrigger → ℕ → Context → Bool → Type 0
TimeAnswers trigger len c answer =
    (current : Option ℤ) × IsCurrent (next_of trigger) (config_of trigger) c current
    × (IsTrue answer ↔ IsDue current c.moment.nanosecond)

-- a call of a time trigger
pub record IsTimeStep
    (before : TimeTrigger) (c : Context) (answer : Bool) (now : TimeTrigger) : Type 0 where
  -- the time that counts
  pub current : Option ℤ
  pub is_current : IsCurrent (next_of before) (config_of before) c current
  pub answers : IsTrue answer ↔ IsDue current c.moment.nanosecond
  -- the next time from then on
  pub next : Option ℤ
  pub is_next : IsNextAfter answer (config_of before) c current next
  pub knows : next_of now ≡ Some next
  pub config : config_of now ≡ config_of before

-- the time trigger after a decision: it never fails
abbrev pub TimeNotes : Context → TimeTrigger → Option Bool → TimeTrigger → Type 0
TimeNotes c before (Some answer) now = IsTimeStep before c answer now
TimeNotes c before None now = ⊥
