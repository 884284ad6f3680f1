-- With one fixed offset each target lies after the moment that it is reckoned from.
use Rattle.std.proofs.Common.{◌≡◌, ◌+◌, ◌-◌, ◌*◌, ◌/◌, ◌%◌, ◌<◌, ℕ, zero, suc, ℤ, pos, ◌<ℤ◌, ◌+ℤ◌, ◌-ℤ◌, refl, Bool, true, false, Option, Some, None, unsigned_abs, arith}
use Rattle.jiff_core.specs.Calendar.{day_count, days_from_civil, weekday_number, IsCivilDate, IsEpochDay}
use Rattle.jiff_core.specs.Timestamp.{nanos_of_seconds, IsTimestampNanos, IsOffsetSeconds}
use Rattle.jiff_core.specs.declared.civil.datetime.DateTime.{DateTime}
use Rattle.jiff_core.specs.declared.timestamp.Timestamp.{Timestamp}
use Rattle.jiff_core.proofs.CalendarLemmas.{days_from_civil-day_count, day_count-lt_year, day_count-lt_month, weekday_number_bound}
use Rattle.jiff_core.proofs.DateTimeLemmas.{civil_nanos-parts}
use Rattle.jiff_core.proofs.SignedLemmas.{signed_arith}
use Rattle.jiff_tz.specs.Ambiguous.{later_offset}
use Rattle.jiff_tz.specs.Zone.{offset_at, ambiguous_at, zero_in_range, IsFixed}
use Rattle.jiff_tz.specs.declared.timezone.TimeZone.{TimeZone}
use Rattle.jiff_tz.specs.declared.timezone.TimeZone.TheVariants.{UTC, Unknown, Fixed, Posix, Tzif}
use Rattle.log4rs_base.specs.Clock.{clock_at, local_clock}
use Rattle.log4rs_base.specs.declared.dates.interval.TimeTriggerConfig.{TimeTriggerConfig}
use Rattle.log4rs_base.specs.declared.dates.interval.TimeTriggerInterval.{TimeTriggerInterval}
use Rattle.log4rs_base.specs.declared.dates.interval.TimeTriggerInterval.TheVariants.{Second, Minute, Hour, Day, Week, Month, Year}
use Rattle.log4rs_base.specs.Interval.{HasNumber}
use Rattle.log4rs_rolling.specs.NextTime.{increment, local_day, target_at, IsMidnight, IsReached, IsDelayed, IsNextTime, delay_of}
use Rattle.log4rs_rolling.proofs.CivilFacts.{calendar_day-is_on}

-- a zone of one offset has it at each instant and at each datetime
fixed_offset : (zone : TimeZone) (moment : ℤ) (dt : DateTime) → IsFixed zone → (later_offset (ambiguous_at zone dt)).seconds ≡ offset_at zone moment
unfolding offset_at ambiguous_at
fixed_offset UTC moment dt fixed = refl
fixed_offset Unknown moment dt fixed = refl
fixed_offset (Fixed offset) moment dt fixed = refl
fixed_offset (Posix tz) moment dt fixed = absurd fixed
fixed_offset (Tzif z) moment dt fixed = absurd fixed

fixed_range : (zone : TimeZone) (moment : ℤ) → IsFixed zone → IsOffsetSeconds (offset_at zone moment)
unfolding offset_at
fixed_range UTC moment fixed = zero_in_range
fixed_range Unknown moment fixed = zero_in_range
fixed_range (Fixed offset) moment fixed = offset.in_range
fixed_range (Posix tz) moment fixed = absurd fixed
fixed_range (Tzif z) moment fixed = absurd fixed

local_day_range : (zone : TimeZone) (moment : ℤ) → IsTimestampNanos moment → IsFixed zone → IsEpochDay (local_day zone moment)
local_day_range zone moment range fixed = omega (arith, signed_arith, fixed_range zone moment fixed)

-- the midnight of a later day lies after the moment
midnight_after : (zone : TimeZone) (moment day n : ℤ) → IsFixed zone → local_day zone moment <ℤ day → IsMidnight zone day n → moment <ℤ n
midnight_after zone moment day n fixed later at =
    omega (arith, signed_arith, at.later, at.on_day, at.at_start, civil_nanos-parts at.shown, fixed_offset zone moment at.shown fixed)

number_some : (n : ℤ) → pos 0 <ℤ n → 0 < unsigned_abs n
number_some n h = omega (arith, signed_arith)

increment_some : (modulate : Bool) (number at : ℕ) → 0 < number → 0 < increment modulate number at
increment_some true number at h = grind arith
increment_some false number at h = h

year_later : (day y : ℤ) (m d n : ℕ) → IsCivilDate y m d → days_from_civil y m d ≡ day → 0 < n → day <ℤ days_from_civil (y +ℤ pos n) 1 1
year_later day y m d n civil is some =
    let later = day_count-lt_year y m d (y +ℤ pos n) 1 1 civil (omega arith) (omega (arith, signed_arith)) in
    omega (arith, signed_arith, later, days_from_civil-day_count y m d, days_from_civil-day_count (y +ℤ pos n) 1 1)

count_later : (y : ℤ) (m d years later : ℕ) → IsCivilDate y m d → (years ≡ 0 → m < later) → day_count y m d < day_count (y +ℤ pos years) later 1
count_later y m d zero later civil after =
    let same : y +ℤ pos 0 ≡ y = omega (arith, signed_arith) in
    rw same (day_count-lt_month y m d later 1 civil (omega arith) (after refl))
count_later y m d (suc years) later civil after =
    day_count-lt_year y m d (y +ℤ pos (suc years)) later 1 civil (omega arith) (omega (arith, signed_arith))

month_later : (day y : ℤ) (m d n : ℕ) → IsCivilDate y m d → days_from_civil y m d ≡ day → 0 < n → day <ℤ days_from_civil (y +ℤ pos ((m - 1 + n) / 12)) ((m - 1 + n) % 12 + 1) 1
month_later day y m d n civil is some =
    let later = count_later y m d ((m - 1 + n) / 12) ((m - 1 + n) % 12 + 1) civil (λ e. omega arith) in
    omega (arith, signed_arith, later, days_from_civil-day_count y m d, days_from_civil-day_count (y +ℤ pos ((m - 1 + n) / 12)) ((m - 1 + n) % 12 + 1) 1)

week_later : (day : ℤ) (n : ℕ) → 0 < n → day <ℤ (day -ℤ pos (weekday_number day) +ℤ pos (7 * n))
week_later day n some = omega (arith, signed_arith, weekday_number_bound day)

day_later : (day : ℤ) (n : ℕ) → 0 < n → day <ℤ (day +ℤ pos n)
day_later day n some = omega (arith, signed_arith)

sum_after : (moment next : ℤ) (below seconds n : ℕ) → 0 < n → below < seconds * 1_000_000_000 → next ≡ moment -ℤ pos below +ℤ nanos_of_seconds (pos (n * seconds)) → moment <ℤ next
sum_after moment next below seconds zero some low e = absurd (omega arith)
sum_after moment next below seconds (suc n) some low e =
    let more : suc n * seconds ≡ n * seconds + seconds = omega arith in
    omega (arith, signed_arith, more)

-- what is reached lies after the moment
reached_after : (interval : TimeTriggerInterval) (modulate : Bool) (zone : TimeZone) (moment r : ℤ) → IsTimestampNanos moment → IsFixed zone → HasNumber interval → IsReached zone (target_at interval modulate moment (local_day zone moment) (local_clock zone moment)) (Some r) → moment <ℤ r
unfolding clock_at
reached_after (Year n) modulate zone moment r range fixed has h =
    let on = calendar_day-is_on (local_day zone moment) (local_day_range zone moment range fixed) in
    midnight_after zone moment _ r fixed (year_later _ _ _ _ _ on.0 on.1 (increment_some modulate _ _ (number_some n has))) h
reached_after (Month n) modulate zone moment r range fixed has h =
    let on = calendar_day-is_on (local_day zone moment) (local_day_range zone moment range fixed) in
    midnight_after zone moment _ r fixed (month_later _ _ _ _ _ on.0 on.1 (increment_some modulate _ _ (number_some n has))) h
reached_after (Week n) modulate zone moment r range fixed has h =
    midnight_after zone moment _ r fixed (week_later _ _ (increment_some modulate _ _ (number_some n has))) h
reached_after (Day n) modulate zone moment r range fixed has h =
    midnight_after zone moment _ r fixed (day_later _ _ (increment_some modulate _ _ (number_some n has))) h
reached_after (Hour n) modulate zone moment r range fixed has h =
    sum_after moment r _ 3600 _ (increment_some modulate _ _ (number_some n has)) (omega arith) h.1
reached_after (Minute n) modulate zone moment r range fixed has h =
    sum_after moment r _ 60 _ (increment_some modulate _ _ (number_some n has)) (omega arith) h.1
reached_after (Second n) modulate zone moment r range fixed has h =
    sum_after moment r _ 1 _ (increment_some modulate _ _ (number_some n has)) (omega arith) h.1

delayed_after : (delay : ℕ) (reached : Option ℤ) (moment next : ℤ) → IsDelayed delay reached (Some next) → ((r : ℤ) → reached ≡ Some r → moment <ℤ r) → moment <ℤ next
delayed_after delay None moment next is after = absurd (cc)
delayed_after delay (Some r) moment next is after = omega (arith, signed_arith, is.1, after r refl)

pub next_after : (config : TimeTriggerConfig) (zone : TimeZone) (moment : Timestamp) (random : ℕ) (next : ℤ) → HasNumber config.interval → IsFixed zone → IsNextTime config zone moment.nanosecond random (Some next) → moment.nanosecond <ℤ next
next_after config zone moment random next has fixed is =
    delayed_after (delay_of config random) is.reached moment.nanosecond next is.is_delayed
    (λ r e. reached_after config.interval config.modulate zone moment.nanosecond r moment.in_range fixed has (rw e at is.is_reached))
