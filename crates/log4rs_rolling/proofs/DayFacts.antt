-- Days past the calendar, days that begin months, and midnights.
use Rattle.std.proofs.Common.{◌≡◌, ◌∙◌, ◌≤◌, ◌<◌, ◌*◌, ◌-◌, ℕ, ℤ, pos, ◌<ℤ◌, ◌+ℤ◌, ◌-ℤ◌, None, Option, refl, sym, ap, subst, arith}
use Rattle.std.specs.Option.{SomeIff}
use Rattle.jiff_core.specs.Calendar.{days_from_civil, day_count, IsEpochDay, weekday_number}
use Rattle.jiff_core.specs.Date.{epoch_day, IsYmd}
use Rattle.jiff_core.specs.declared.civil.date.Date.{Date}
use Rattle.jiff_core.proofs.CalendarLemmas.{day_count-later_year, day_count-next_year, day_count-end, day_count-day_of_year, days_from_civil-day_count, weekday_number-parts}
use Rattle.jiff_core.proofs.DateLemmas.{epoch_day_range}
use Rattle.jiff_core.proofs.SignedLemmas.{signed_arith, one_part}
use Rattle.jiff_core.specs.Time.{time_nanos}
use Rattle.jiff_core.specs.Timestamp.{IsTimestampNanos}
use Rattle.jiff_core.specs.declared.civil.datetime.DateTime.{DateTime}
use Rattle.jiff_core.proofs.DateTimeLemmas.{civil_nanos-parts}
use Rattle.jiff_zoned.proofs.SameLemmas.{same_datetime}
use Rattle.jiff_tz.specs.Ambiguous.{instant_of, later_offset}
use Rattle.jiff_tz.specs.Zone.{ambiguous_at}
use Rattle.jiff_tz.specs.declared.timezone.TimeZone.{TimeZone}
use Rattle.log4rs_rolling.specs.NextTime.{IsMidnight, IsDay, IsReached, midnight}

-- past the last year there is no day
pub late_day : (y : ℤ) (m d : ℕ) → pos 9999 <ℤ y → 1 ≤ d → ¬ (IsEpochDay (days_from_civil y m d))
late_day y m d late first in_range =
    let end : day_count (pos 10000) 1 1 ≡ 7_304_850 = day_count-end in
    let last = day_count-next_year (pos 9999) (pos 10000) (omega (arith, signed_arith)) refl in
    let later = day_count-later_year (pos 9999) y (omega (arith, signed_arith)) late in
    let count = day_count-day_of_year y m d first in
    omega (arith, signed_arith, end, last, later, count, days_from_civil-day_count y m d)

-- a date with these parts has that day number
pub ymd_day : (d : Date) (y : ℤ) (m n : ℕ) → IsYmd y (pos m) (pos n) d → epoch_day d ≡ days_from_civil y m n
ymd_day d y m n ymd =
    let month : d.month ≡ m = cc in
    let day : d.day ≡ n = cc in
    ap (λ y. days_from_civil y d.month d.day) ymd.0 ∙ (ap (λ m. days_from_civil y m d.day) month ∙ ap (days_from_civil y m) day)

pub ymd_in_range : (d : Date) (y : ℤ) (m n : ℕ) → IsYmd y (pos m) (pos n) d → IsEpochDay (days_from_civil y m n)
ymd_in_range d y m n ymd = let P : ℤ → Type 0 = λ z. IsEpochDay z in subst P (ymd_day d y m n ymd) (epoch_day_range d)

-- where the library has no such day, no midnight begins it
pub no_midnight : (zone : TimeZone) (day n : ℤ) → ¬ (IsEpochDay day) → ¬ (IsMidnight zone day n)
no_midnight zone day n lacks at = let P : ℤ → Type 0 = λ z. IsEpochDay z in lacks (subst P at.on_day (epoch_day_range at.shown.date))

-- each week of the calendar has its Thursday there
pub thursday_in_range : (day : ℤ) → IsEpochDay day → IsEpochDay (day +ℤ (pos 3 -ℤ pos (weekday_number day)))
thursday_in_range day in_range = omega (arith, signed_arith, weekday_number-parts day, one_part day)

pub reached_none : (zone : TimeZone) (day : ℤ) → ¬ (IsEpochDay day) → IsReached zone (midnight day) None
reached_none zone day lacks = λ n. no_midnight zone day n lacks

abbrev pub midnight_of : TimeZone → DateTime → ℤ
midnight_of zone dt = instant_of dt (later_offset (ambiguous_at zone dt))

-- two midnights of one day are one datetime
pub same_midnight : (a b : DateTime) → epoch_day a.date ≡ epoch_day b.date → time_nanos a.time ≡ 0 → time_nanos b.time ≡ 0 → a ≡ b
same_midnight a b days at other =
    same_datetime a b (civil_nanos-parts a ∙ (rw (days, at) refl ∙ sym (rw other at (civil_nanos-parts b))))

-- the instant of a day's midnight is that of any datetime that is this midnight
pub midnight_is : (zone : TimeZone) (day n : ℤ) (dt : DateTime) → epoch_day dt.date ≡ day → time_nanos dt.time ≡ 0 → IsMidnight zone day n → IsTimestampNanos (midnight_of zone dt)
midnight_is zone day n dt on start at =
    let P : ℤ → Type 0 = λ z. IsTimestampNanos z in
    subst P (at.later ∙ ap (midnight_of zone) (same_midnight at.shown dt (at.on_day ∙ sym on) at.at_start start)) at.in_range

-- an equal number of a day, and of an instant
pub day_at : (a b : ℤ) (r : Option Date) → IsDay a r → a ≡ b → IsDay b r
day_at a b r h e = let P : ℤ → Type 0 = λ z. IsDay z r in subst P e h

pub instant_of_same : (a b : ℤ) (r : Option ℤ) → SomeIff r (IsTimestampNanos a) a → a ≡ b → SomeIff r (IsTimestampNanos b) b
instant_of_same a b r h e = let P : ℤ → Type 0 = λ z. SomeIff r (IsTimestampNanos z) z in subst P e h

pub in_range_at : (a b : ℤ) → IsEpochDay b → a ≡ b → IsEpochDay a
in_range_at a b h e = let P : ℤ → Type 0 = λ z. IsEpochDay z in subst P (sym e) h

-- so many weeks from the Monday
pub weeks_ahead : (day : ℤ) (w n : ℕ) → w < 7 → 0 < n → day +ℤ pos (7 * n - w) ≡ day -ℤ pos w +ℤ pos (7 * n)
weeks_ahead day w n low some = omega (arith, signed_arith)

pub same_start : (y z : ℤ) (m n : ℕ) → y ≡ z → m ≡ n → days_from_civil y m 1 ≡ days_from_civil z n 1
same_start y z m n p q = ap (λ y. days_from_civil y m 1) p ∙ ap (λ m. days_from_civil z m 1) q
