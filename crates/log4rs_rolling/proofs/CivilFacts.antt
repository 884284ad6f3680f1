-- Each day number of the calendar is that of the civil date that its calendar day names.
use Rattle.std.proofs.Common.{◌≡◌, ◌+◌, ◌-◌, ◌<◌, ◌≤◌, ℕ, zero, suc, ℤ, pos, ◌+ℤ◌, ◌-ℤ◌, refl, ap, Bool, true, false, cond, nat_lt, unsigned_abs, arith}
use Rattle.std.proofs.lemmas.Bool.Decides.{nat_tests}
use Rattle.std.proofs.lemmas.Int.{ints}
use Rattle.jiff_core.specs.Calendar.{days_in_year, days_in_month, days_of_years, days_of_months, day_count, days_from_civil, IsCivilDate, IsEpochDay}
use Rattle.jiff_core.proofs.CalendarLemmas.{days_of_months_more, days_of_months_all, days_of_months-zero, days_in_year_bounds, days_from_civil-day_count, day_count-epoch, day_count-end}
use Rattle.jiff_core.proofs.SignedLemmas.{signed_arith, one_part}
use Rattle.log4rs_base.specs.Clock.{Split, CalendarDay, split_years, split_months, calendar_day}

abbrev split : ℕ → ℕ → Split
split whole rest = record { whole = whole; rest = rest }

abbrev year_of : ℕ → ℤ
year_of n = pos n -ℤ pos 10_000

years_zero : days_of_years 0 ≡ 0
unfolding days_of_years
years_zero = refl

years_step : (n : ℕ) → days_of_years (suc n) ≡ days_of_years n + days_in_year (year_of n)
unfolding days_of_years
years_step n = refl

-- the years before the day, and the days of its year before it
abbrev YearsAt : ℕ → ℕ → Split → Type 0
YearsAt total last s =
    (s.rest + days_of_years s.whole ≡ total) × (s.rest < days_in_year (year_of s.whole)) × (s.whole < last)

years_at : (k n last days total : ℕ) → n + k ≡ last → days + days_of_years n ≡ total → total < days_of_years last → YearsAt total last (split_years k n days)
unfolding split_years
years_at zero n last days total e t h =
    let same : n ≡ last = omega arith in
    absurd (omega (arith, ap days_of_years same))
years_at (suc k) n last days total e t h =
    by_test
    (λ above. years_at k (n + 1) last (days - days_in_year (year_of n)) total (omega arith)
    (let next : n + 1 ≡ suc n = omega arith in rw next (omega (arith, years_step n))) h)
    (nat_lt days (days_in_year (year_of n))) refl
  where
    by_test : (days_in_year (year_of n) ≤ days → YearsAt total last (split_years k (n + 1) (days - days_in_year (year_of n)))) → (b : Bool) → nat_lt days (days_in_year (year_of n)) ≡ b → YearsAt total last (cond b (split n days) (split_years k (n + 1) (days - days_in_year (year_of n))))
    by_test more true test =
        let below : days < days_in_year (year_of n) = grind (arith, nat_tests) in
        (t, below, omega arith)
    by_test more false test =
        let above : days_in_year (year_of n) ≤ days = grind (arith, nat_tests) in
        more above

-- the months before the day, and the days of its month before it
abbrev MonthsAt : ℤ → ℕ → ℕ → Split → Type 0
MonthsAt y total last s =
    (s.rest + days_of_months y (s.whole - 1) ≡ total) × (s.rest < days_in_month y s.whole) × (1 ≤ s.whole) × (s.whole ≤ last)

months_at : (k : ℕ) (y : ℤ) (m last days total : ℕ) → 1 ≤ m → m + k ≡ last → days + days_of_months y (m - 1) ≡ total → total < days_of_months y last → MonthsAt y total last (split_months k y m days)
unfolding split_months
months_at zero y m last days total one e t h =
    let same : m ≡ last = omega arith in
    (t, omega (arith, days_of_months_more y m one, ap (days_of_months y) same), one, omega arith)
months_at (suc k) y m last days total one e t h =
    by_test
    (λ above. months_at k y (m + 1) last (days - days_in_month y m) total (omega arith) (omega arith)
    (let back : m + 1 - 1 ≡ m = omega arith in rw back (omega (arith, days_of_months_more y m one))) h)
    (nat_lt days (days_in_month y m)) refl
  where
    by_test : (days_in_month y m ≤ days → MonthsAt y total last (split_months k y (m + 1) (days - days_in_month y m))) → (b : Bool) → nat_lt days (days_in_month y m) ≡ b → MonthsAt y total last (cond b (split m days) (split_months k y (m + 1) (days - days_in_month y m)))
    by_test more true test =
        let below : days < days_in_month y m = grind (arith, nat_tests) in
        (t, below, one, omega arith)
    by_test more false test =
        let above : days_in_month y m ≤ days = grind (arith, nat_tests) in
        more above

years_counted : day_count (pos 10_000) 1 1 ≡ days_of_years 20_000
unfolding day_count
years_counted = omega (arith, days_of_months-zero (pos 10_000))

years_all : days_of_years 20_000 ≡ 7_304_850
years_all = omega (arith, years_counted, day_count-end)

-- the first year of the calendar is not the first that is counted
some_years : (w rest total : ℕ) → rest + days_of_years w ≡ total → rest < days_in_year (year_of w) → 366 ≤ total → 1 ≤ w
some_years zero rest total e h low = absurd (omega (arith, years_zero, days_in_year_bounds (year_of zero)))
some_years (suc w) rest total e h low = omega arith

year_place : (w : ℕ) → unsigned_abs (year_of w +ℤ pos 10_000) ≡ w
year_place w = omega (arith, ints)

day_count-split : (w m rest before total : ℕ) → rest + days_of_months (year_of w) (m - 1) ≡ before → before + days_of_years w ≡ total → day_count (year_of w) m (rest + 1) ≡ total
unfolding day_count
day_count-split w m rest before total e f = rw (year_place w) (omega arith)

-- the calendar day has a date, and its day number is that of the date
abbrev IsOn : ℤ → CalendarDay → Type 0
IsOn day d = IsCivilDate d.year d.month d.day × (days_from_civil d.year d.month d.day ≡ day)

on_split : (day : ℤ) (y m : Split) (total : ℕ) → IsEpochDay day → unsigned_abs (day +ℤ pos 4_371_953) ≡ total → YearsAt total 20_000 y → MonthsAt (year_of y.whole) y.rest 12 m → IsOn day (record { year = year_of y.whole; month = m.whole; day = m.rest + 1; day_of_year = y.rest + 1 })
on_split day y m total range e years months =
    let low : 366 ≤ total = omega (arith, signed_arith) in
    let some = some_years y.whole y.rest total years.0 years.1 low in
    let count = day_count-split y.whole m.whole m.rest y.rest total months.0 years.0 in (
      (omega (arith, signed_arith), (months.2, months.3), (omega arith, omega arith)),
      omega (arith, signed_arith, count, one_part (day +ℤ pos 4_371_953), days_from_civil-day_count (year_of y.whole) m.whole (m.rest + 1)),
    )

day_counted : (day : ℤ) → IsEpochDay day → unsigned_abs (day +ℤ pos 4_371_953) < 7_304_850
day_counted day range = omega (arith, signed_arith, one_part (day +ℤ pos 4_371_953))

pub calendar_day-is_on : (day : ℤ) → IsEpochDay day → IsOn day (calendar_day day)
unfolding calendar_day
calendar_day-is_on day range =
    let total : ℕ = unsigned_abs (day +ℤ pos (day_count (pos 1970) 1 1)) in
    let is : unsigned_abs (day +ℤ pos 4_371_953) ≡ total = rw day_count-epoch refl in
    let y = split_years 20_000 0 total in
    let years = years_at 20_000 0 20_000 total total refl (omega (arith, years_zero)) (omega (arith, is, day_counted day range, years_all)) in
    let months = months_at 11 (year_of y.whole) 1 12 y.rest y.rest (omega arith) refl (omega (arith, days_of_months-zero (year_of y.whole))) (omega (arith, years, days_of_months_all (year_of y.whole))) in
    on_split day y (split_months 11 (year_of y.whole) 1 y.rest) total range is years months
