-- The target in terms of the datetime that the zone shows.
use Rattle.std.proofs.Common.{◌≡◌, ℤ, ◌+ℤ◌, Bool, false, Option, sym, subst}
use Rattle.jiff_core.specs.Date.{epoch_day, ordinal, weekday_of}
use Rattle.jiff_core.specs.DateTime.{civil_nanos}
use Rattle.jiff_core.specs.Timestamp.{nanos_of_seconds}
use Rattle.jiff_core.specs.declared.civil.datetime.DateTime.{DateTime}
use Rattle.jiff_core.proofs.DateTimeLemmas.{epoch_day-civil_nanos}
use Rattle.jiff_tz.specs.Zone.{offset_at}
use Rattle.jiff_tz.specs.declared.timezone.TimeZone.{TimeZone}
use Rattle.log4rs_base.specs.Clock.{ClockFields, local_clock}
use Rattle.log4rs_base.proofs.ClockFacts.{clock_at-civil_nanos}
use Rattle.log4rs_rolling.specs.NextTime.{target_at, local_day, IsReached}
use Rattle.log4rs_base.specs.declared.dates.interval.TimeTriggerInterval.{TimeTriggerInterval}

abbrev pub fields_of : DateTime → ℤ → ClockFields
fields_of dt offset = record {
  year = dt.date.year;
  month = dt.date.month;
  day = dt.date.day;
  day_of_year = ordinal dt.date;
  weekday = weekday_of dt.date;
  hour = dt.time.hour;
  minute = dt.time.minute;
  second = dt.time.second;
  nanosecond = dt.time.subsec_nanosecond;
  offset = offset;
  is_utc = false;
}

pub local_clock-shown : (zone : TimeZone) (moment : ℤ) (dt : DateTime) → civil_nanos dt ≡ moment +ℤ nanos_of_seconds (offset_at zone moment) → local_clock zone moment ≡ fields_of dt (offset_at zone moment)
local_clock-shown zone moment dt e = rw (← e) (clock_at-civil_nanos dt (offset_at zone moment) false)

pub local_day-shown : (zone : TimeZone) (moment : ℤ) (dt : DateTime) → civil_nanos dt ≡ moment +ℤ nanos_of_seconds (offset_at zone moment) → local_day zone moment ≡ epoch_day dt.date
local_day-shown zone moment dt e = rw (← e) (sym (epoch_day-civil_nanos dt))

-- what is reached from what the zone shows
pub reached_shown : (interval : TimeTriggerInterval) (m : Bool) (zone : TimeZone) (moment : ℤ) (dt : DateTime) (r : Option ℤ) → civil_nanos dt ≡ moment +ℤ nanos_of_seconds (offset_at zone moment) → IsReached zone (target_at interval m moment (epoch_day dt.date) (fields_of dt (offset_at zone moment))) r → IsReached zone (target_at interval m moment (local_day zone moment) (local_clock zone moment)) r
reached_shown interval m zone moment dt r e h =
    let P : ℤ → Type 0 = λ day. IsReached zone (target_at interval m moment day (local_clock zone moment)) r in
    let Q : ClockFields → Type 0 = λ c. IsReached zone (target_at interval m moment (epoch_day dt.date) c) r in
    subst P (sym (local_day-shown zone moment dt e)) (subst Q (sym (local_clock-shown zone moment dt e)) h)
