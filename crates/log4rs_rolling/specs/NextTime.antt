-- When a time trigger fires next:
-- a step on the calendar, turned into an instant, or a sum on instants.
use Rattle.std.specs.Prelude.{◌≡◌, ◌+◌, ◌-◌, ◌*◌, ◌/◌, ◌%◌, ◌==◌, ℕ, ℤ, pos, ◌+ℤ◌, ◌-ℤ◌, Bool}
use Rattle.std.specs.Prelude.{if◌then◌else◌, unsigned_abs, Option, Some, None, option_map}
use Rattle.std.specs.Int.{int_div_euclid, int_rem_euclid}
use Rattle.std.specs.Option.{SomeIff, MatchOption}
use Rattle.jiff_core.specs.Calendar.{days_from_civil, IsEpochDay}
use Rattle.jiff_core.specs.Date.{epoch_day}
use Rattle.jiff_core.specs.Time.{time_nanos}
use Rattle.jiff_core.specs.Timestamp.{nanos_of_seconds, IsTimestampNanos}
use Rattle.jiff_core.specs.declared.civil.date.Date.{Date}
use Rattle.jiff_core.specs.declared.timestamp.Timestamp.{Timestamp}
use Rattle.jiff_core.specs.declared.civil.datetime.DateTime.{DateTime}
use Rattle.jiff_tz.specs.Ambiguous.{instant_of, later_offset}
use Rattle.jiff_tz.specs.Zone.{offset_at, ambiguous_at}
use Rattle.jiff_tz.specs.declared.timezone.TimeZone.{TimeZone}
use Rattle.log4rs_base.specs.Clock.{ClockFields, local_clock, calendar_day}
use Rattle.log4rs_base.specs.declared.dates.interval.TimeTriggerConfig.{TimeTriggerConfig}
use Rattle.log4rs_base.specs.declared.dates.interval.TimeTriggerInterval.{TimeTriggerInterval}
use Rattle.log4rs_base.specs.declared.dates.interval.TimeTriggerInterval.TheVariants.{Second, Minute}
use Rattle.log4rs_base.specs.declared.dates.interval.TimeTriggerInterval.TheVariants.{Hour, Day, Week}
use Rattle.log4rs_base.specs.declared.dates.interval.TimeTriggerInterval.TheVariants.{Month, Year}

-- the day that the zone shows at a moment
abbrev pub local_day : TimeZone → ℤ → ℤ
local_day zone moment =
    int_div_euclid (moment +ℤ nanos_of_seconds (offset_at zone moment)) (pos 86_400_000_000_000)

-- how many units the next time lies on: all of them, or up to the next multiple of their number
abbrev pub increment : Bool → ℕ → ℕ → ℕ
increment modulate number at = if modulate then number - at % number else number

-- the remainder of a year, which is not negative
abbrev pub year_rest : ℤ → ℕ → ℕ
year_rest year number = unsigned_abs (int_rem_euclid year (pos number))

-- the ISO week of a day, from 0: a week counts in the year of its Thursday
abbrev pub iso_week : ℤ → ℕ → ℕ
iso_week day weekday = ((calendar_day (day -ℤ pos weekday +ℤ pos 3)).day_of_year - 1) / 7

-- where a step leads: to the midnight that begins a day, or to an instant
pub data Target : Type 0 where
  midnight : ℤ → Target
  instant : ℤ → Target

-- 1 January, n years on
abbrev pub year_target : ℤ → ℕ → Target
year_target year n = midnight (days_from_civil (year +ℤ pos n) 1 1)

-- the first of the month, n months on, which are counted from January of the year
abbrev pub month_target : ℤ → ℕ → ℕ → Target
month_target year month n =
    midnight (days_from_civil (year +ℤ pos ((month - 1 + n) / 12)) ((month - 1 + n) % 12 + 1) 1)

-- the Monday of the week, n weeks on
abbrev pub week_target : ℤ → ℕ → ℕ → Target
week_target day weekday n = midnight (day -ℤ pos weekday +ℤ pos (7 * n))

abbrev pub day_target : ℤ → ℕ → Target
day_target day n = midnight (day +ℤ pos n)

-- the moment less what the clock shows below the unit, and n units of so many seconds
abbrev pub ahead : ℤ → ℕ → ℕ → ℤ
ahead moment below seconds = moment -ℤ pos below +ℤ nanos_of_seconds (pos seconds)

abbrev pub clock_target : ℤ → ℕ → ℕ → ℕ → Target
clock_target moment below seconds n = instant (ahead moment below (n * seconds))

abbrev pub below_minute : ClockFields → ℕ
below_minute c = c.second * 1_000_000_000 + c.nanosecond

abbrev pub below_hour : ClockFields → ℕ
below_hour c = c.minute * 60_000_000_000 + below_minute c

abbrev pub target_at : TimeTriggerInterval → Bool → ℤ → ℤ → ClockFields → Target
target_at (Year n) m moment day c =
    year_target c.year (increment m (unsigned_abs n) (year_rest c.year (unsigned_abs n)))
target_at (Month n) m moment day c =
    month_target c.year c.month (increment m (unsigned_abs n) (c.month - 1))
target_at (Week n) m moment day c =
    week_target day c.weekday (increment m (unsigned_abs n) (iso_week day c.weekday))
target_at (Day n) m moment day c = day_target day (increment m (unsigned_abs n) (c.day_of_year - 1))
target_at (Hour n) m moment day c =
    clock_target moment (below_hour c) 3600 (increment m (unsigned_abs n) c.hour)
target_at (Minute n) m moment day c =
    clock_target moment (below_minute c) 60 (increment m (unsigned_abs n) c.minute)
target_at (Second n) m moment day c =
    clock_target moment c.nanosecond 1 (increment m (unsigned_abs n) c.second)

-- the target of the next time
abbrev pub target : TimeTriggerConfig → TimeZone → ℤ → Target
target config zone moment =
    target_at config.interval config.modulate moment (local_day zone moment)
    (local_clock zone moment)

-- the instant of the midnight that begins a day, the later one where the zone's clock jumps there
pub record IsMidnight (zone : TimeZone) (day : ℤ) (n : ℤ) : Type 0 where
  pub shown : DateTime
  pub on_day : epoch_day shown.date ≡ day
  pub at_start : time_nanos shown.time ≡ 0
  pub later : n ≡ instant_of shown (later_offset (ambiguous_at zone shown))
  pub in_range : IsTimestampNanos n

-- the instant of a target, and none where the library has no such instant or no such day
abbrev pub IsReached : TimeZone → Target → Option ℤ → Type 0
IsReached zone (midnight day) r =
    MatchOption r ((n : ℤ) → ¬ (IsMidnight zone day n)) (IsMidnight zone day)
IsReached zone (instant n) r = SomeIff r (IsTimestampNanos n) n

-- the seconds that the random word adds
abbrev pub delay_of : TimeTriggerConfig → ℕ → ℕ
delay_of config random =
    if config.max_random_delay == 0 then 0 else random % config.max_random_delay

-- so many seconds later, where there was an instant and is one then
abbrev pub IsDelayed : ℕ → Option ℤ → Option ℤ → Type 0
IsDelayed delay None r = r ≡ None
IsDelayed delay (Some n) r =
    SomeIff r (IsTimestampNanos (n +ℤ nanos_of_seconds (pos delay)))
    (n +ℤ nanos_of_seconds (pos delay))

-- the next time, and none where there is none
pub record IsNextTime
    (config : TimeTriggerConfig) (zone : TimeZone)
    (moment : ℤ) (random : ℕ) (r : Option ℤ) : Type 0 where
  pub reached : Option ℤ
  pub is_reached : IsReached zone (target config zone moment) reached
  pub is_delayed : IsDelayed (delay_of config random) reached r

-- the date with a day number, and none where the library has no such day
abbrev pub IsDay : ℤ → Option Date → Type 0
IsDay day r = SomeIff (option_map epoch_day r) (IsEpochDay day) day

-- the nanoseconds of an instant, if there is one
abbrev pub nanos : Option Timestamp → Option ℤ
nanos t = option_map (λ t. t.nanosecond) t
