-- The interval of a time trigger.
use Rattle.std.specs.Prelude.{ℤ, pos, ◌<ℤ◌}
use Rattle.log4rs_base.specs.declared.dates.interval.TimeTriggerInterval.{TimeTriggerInterval}
use Rattle.log4rs_base.specs.declared.dates.interval.TimeTriggerInterval.TheVariants.{Second, Minute}
use Rattle.log4rs_base.specs.declared.dates.interval.TimeTriggerInterval.TheVariants.{Hour, Day, Week}
use Rattle.log4rs_base.specs.declared.dates.interval.TimeTriggerInterval.TheVariants.{Month, Year}

-- the number of units of an interval
abbrev pub number_of : TimeTriggerInterval → ℤ
number_of (Year n) = n
number_of (Month n) = n
number_of (Week n) = n
number_of (Day n) = n
number_of (Hour n) = n
number_of (Minute n) = n
number_of (Second n) = n

-- the number of an interval is at least 1
abbrev pub HasNumber : TimeTriggerInterval → Type 0
HasNumber interval = pos 0 <ℤ number_of interval
