-- Times at which a log file is due to be rolled.
use Rattle.std.specs.Prelude.{◌≡◌, ℤ, ◌≤ℤ◌, Bool, true, false, Option, Some, None}
use Rattle.jiff.specs.Words.{plain_zone}
use Rattle.log4rs_base.specs.declared.record.Context.{Context}
use Rattle.log4rs_rolling.specs.NextTime.{IsNextTime}
use Rattle.log4rs_base.specs.declared.dates.interval.TimeTriggerConfig.{TimeTriggerConfig}

-- the time has come, in nanoseconds
abbrev pub IsDue : Option ℤ → ℤ → Type 0
IsDue None moment = ⊥
IsDue (Some next) moment = next ≤ℤ moment

-- the next time, computed from a context
abbrev pub IsNextIn : TimeTriggerConfig → Context → Option ℤ → Type 0
IsNextIn config c next = IsNextTime config (plain_zone c.zone) c.moment.nanosecond c.random next

-- the time that counts in a call: the one that is known, and in the first call the next one
abbrev pub IsCurrent : Option (Option ℤ) → TimeTriggerConfig → Context → Option ℤ → Type 0
IsCurrent None config c current = IsNextIn config c current
IsCurrent (Some known) config c current = current ≡ known

-- after a firing the next time is computed again, and otherwise it stays
abbrev pub IsNextAfter : Bool → TimeTriggerConfig → Context → Option ℤ → Option ℤ → Type 0
IsNextAfter true config c current next = IsNextIn config c next
IsNextAfter false config c current next = next ≡ current
