-- What a calendar and a clock show at a moment:
-- a function of the moment and of how far the clock is ahead of UTC.
use Rattle.std.specs.Prelude.{ℕ, zero, suc, ◌+◌, ◌-◌, ◌/◌, ◌%◌, Bool, true, false, nat_lt}
use Rattle.std.specs.Prelude.{if◌then◌else◌, ℤ, pos, ◌+ℤ◌, ◌-ℤ◌, unsigned_abs}
use Rattle.std.specs.Int.{int_div_euclid, int_rem_euclid}
use Rattle.jiff_core.specs.Calendar.{days_in_year, days_in_month, day_count, weekday_number}
use Rattle.jiff_core.specs.Timestamp.{nanos_of_seconds}
use Rattle.jiff_tz.specs.Zone.{offset_at}
use Rattle.jiff_tz.specs.declared.timezone.TimeZone.{TimeZone}

-- what a calendar and a clock show;
-- the weekday counts from 0 for Monday, the offset is in seconds ahead of UTC
pub record ClockFields : Type 0 where
  pub year : ℤ
  pub month : ℕ
  pub day : ℕ
  pub day_of_year : ℕ
  pub weekday : ℕ
  pub hour : ℕ
  pub minute : ℕ
  pub second : ℕ
  pub nanosecond : ℕ
  pub offset : ℤ
  pub is_utc : Bool

-- how many whole units fit into the days that are left, and the days that are then left
pub record Split : Type 0 where
  pub whole : ℕ
  pub rest : ℕ

-- whole years off the front of some days, counted from the year -10000
unfoldable pub split_years : ℕ → ℕ → ℕ → Split
split_years zero n days = record { whole = n; rest = days }
split_years (suc k) n days =
    if nat_lt days (days_in_year (pos n -ℤ pos 10_000)) then record { whole = n; rest = days }
    else split_years k (n + 1) (days - days_in_year (pos n -ℤ pos 10_000))

-- whole months off the front of the days of a year
unfoldable pub split_months : ℕ → ℤ → ℕ → ℕ → Split
split_months zero year m days = record { whole = m; rest = days }
split_months (suc k) year m days =
    if nat_lt days (days_in_month year m) then record { whole = m; rest = days }
    else split_months k year (m + 1) (days - days_in_month year m)

-- a day of the calendar
pub record CalendarDay : Type 0 where
  pub year : ℤ
  pub month : ℕ
  pub day : ℕ
  pub day_of_year : ℕ

abbrev pub day_in_year : ℤ → ℕ → CalendarDay
day_in_year year days = let m = split_months 11 year 1 days in
    record { year = year; month = m.whole; day = m.rest + 1; day_of_year = days + 1 }

-- the calendar day with a day number, where 1970-01-01 has 0:
-- whole years off the front, then whole months
unfoldable pub calendar_day : ℤ → CalendarDay
calendar_day number =
    let y = split_years 20_000 0 (unsigned_abs (number +ℤ pos (day_count (pos 1970) 1 1))) in
    day_in_year (pos y.whole -ℤ pos 10_000) y.rest

-- what is shown on a day, that many nanoseconds after midnight
abbrev pub clock_on : ℤ → ℕ → ℤ → Bool → ClockFields
clock_on number nanos offset is_utc = let d = calendar_day number in record {
  year = d.year;
  month = d.month;
  day = d.day;
  day_of_year = d.day_of_year;
  weekday = weekday_number number;
  hour = nanos / 3_600_000_000_000;
  minute = nanos / 60_000_000_000 % 60;
  second = nanos / 1_000_000_000 % 60;
  nanosecond = nanos % 1_000_000_000;
  offset = offset;
  is_utc = is_utc;
}

-- what a clock shows, from the nanoseconds since its 1970-01-01T00:00:00
unfoldable pub clock_at : ℤ → ℤ → Bool → ClockFields
clock_at n offset is_utc =
    clock_on (int_div_euclid n (pos 86_400_000_000_000))
    (unsigned_abs (int_rem_euclid n (pos 86_400_000_000_000))) offset is_utc

-- the clock of a time zone at a moment, in nanoseconds since the Unix epoch
abbrev pub local_clock : TimeZone → ℤ → ClockFields
local_clock zone moment =
    clock_at (moment +ℤ nanos_of_seconds (offset_at zone moment)) (offset_at zone moment) false

-- the clock of UTC
abbrev pub utc_clock : ℤ → ClockFields
utc_clock moment = clock_at moment (pos 0) true
