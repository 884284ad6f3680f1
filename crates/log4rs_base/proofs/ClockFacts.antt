-- The calendar day of a date's day number is that date, and a clock shows its datetime.
use Rattle.std.proofs.Common.{◌≡◌, ◌∙◌, ◌+◌, ◌-◌, ◌/◌, ◌%◌, ◌<◌, ◌≤◌, ℕ, zero, suc, ℤ, pos, ◌+ℤ◌, ◌-ℤ◌, refl, ap, Bool, true, false, cond, nat_lt, unsigned_abs, arith}
use Rattle.std.proofs.lemmas.Bool.Decides.{nat_tests}
use Rattle.std.proofs.Common.{◌⊎◌, inl, inr, neg_ℤ, ◌≤ℤ◌}
use Rattle.std.proofs.lemmas.Int.{ints}
use borrow.Author.Differences.{up, down}
use Rattle.std.specs.Int.{int_rem_euclid}
use Rattle.jiff_core.specs.Calendar.{days_in_year, days_in_month, days_of_years, days_of_months, day_count, days_from_civil, day_of_year, IsCivilDate}
use Rattle.jiff_core.specs.Date.{ordinal, weekday_of}
use Rattle.jiff_core.specs.DateTime.{civil_nanos}
use Rattle.jiff_core.specs.Time.{time_nanos}
use Rattle.jiff_core.specs.declared.civil.datetime.DateTime.{DateTime}
use Rattle.jiff_core.specs.declared.civil.time.Time.{Time}
use Rattle.jiff_core.proofs.CalendarLemmas.{days_of_months_mono, days_of_months_more, day_count-epoch, days_from_civil-day_count, day_of_year_bound}
use Rattle.jiff_core.proofs.DateLemmas.{civil}
use Rattle.jiff_core.proofs.DateTimeLemmas.{epoch_day-civil_nanos, civil_nanos-parts}
use Rattle.jiff_core.proofs.SignedLemmas.{signed_arith, one_part}
use Rattle.log4rs_base.specs.Clock.{Split, CalendarDay, split_years, split_months, calendar_day, clock_at}

-- each year adds its days
years_step : (n : ℕ) → days_of_years (suc n) ≡ days_of_years n + days_in_year (pos n -ℤ pos 10_000)
unfolding days_of_years
years_step n = refl

years_add : (a k : ℕ) → days_of_years a ≤ days_of_years (k + a)
years_add a zero = let same : zero + a ≡ a = omega arith in rw same (omega arith)
years_add a (suc k) =
    let step : suc k + a ≡ suc (k + a) = omega arith in
    rw step (omega (arith, years_add a k, years_step (k + a)))

years_mono : (a b : ℕ) → a ≤ b → days_of_years a ≤ days_of_years b
years_mono a b h = let split : b ≡ (b - a) + a = omega arith in rw split (years_add a (b - a))

le_cases : (a b : ℕ) → a ≤ b → (a < b) ⊎ (a ≡ b)
le_cases a b h = grind arith

abbrev split : ℕ → ℕ → Split
split whole rest = record { whole = whole; rest = rest }

split_same : (a b x y : ℕ) → a ≡ b → x ≡ y → split a x ≡ split b y
split_same a b x y p q = cc

abbrev year_length : ℕ → ℕ
year_length n = days_in_year (pos n -ℤ pos 10_000)

years_split : (k n m r days : ℕ) → n ≤ m → m < n + k → days + days_of_years n ≡ days_of_years m + r → r < year_length m → split_years k n days ≡ split m r
unfolding split_years
years_split zero n m r days low high e small = absurd (omega arith)
years_split (suc k) n m r days low high e small =
    by_test
    (λ past above. years_split k (n + 1) m r (days - year_length n) (omega arith) (omega arith)
    (let next : n + 1 ≡ suc n = omega arith in rw next (omega (arith, years_step n))) small)
    (nat_lt days (year_length n)) refl
  where
    later : suc n ≤ m → days_of_years n + year_length n ≤ days_of_years m
    later h = omega (arith, years_mono (suc n) m h, years_step n)

    same_days : n ≡ m → days_of_years n ≡ days_of_years m
    same_days p = ap days_of_years p

    same_length : n ≡ m → year_length n ≡ year_length m
    same_length p = ap year_length p

    by_test : (n < m → year_length n ≤ days → split_years k (n + 1) (days - year_length n) ≡ split m r) → (b : Bool) → nat_lt days (year_length n) ≡ b → cond b (split n days) (split_years k (n + 1) (days - year_length n)) ≡ split m r
    by_test more true t =
        let below : days < year_length n = grind (arith, nat_tests) in
        let here : n ≡ m = elim (le_cases n m low) [ inl before ↦ absurd (omega (arith, later before)) | inr same ↦ same ] in
        let days_are : days ≡ r = omega (arith, same_days here) in
        split_same n m days r here days_are
    by_test more false t =
        let above : year_length n ≤ days = grind (arith, nat_tests) in
        let past : n < m = elim (le_cases n m low) [ inl before ↦ before | inr same ↦ absurd (omega (arith, same_days same, same_length same)) ] in
        more past above

-- each month adds its days
months_split : (k : ℕ) (y : ℤ) (n m r days : ℕ) → 1 ≤ n → n ≤ m → m < n + suc k → days + days_of_months y (n - 1) ≡ days_of_months y (m - 1) + r → r < days_in_month y m → split_months k y n days ≡ split m r
unfolding split_months
months_split zero y n m r days one low high e small =
    let here : n ≡ m = omega arith in
    let days_are : days ≡ r = omega (arith, ap (λ i. days_of_months y (i - 1)) here) in
    split_same n m days r here days_are
months_split (suc k) y n m r days one low high e small =
    by_test
    (λ past above. months_split k y (n + 1) m r (days - days_in_month y n) (omega arith) (omega arith) (omega arith)
    (let back : n + 1 - 1 ≡ n = omega arith in rw back (omega (arith, days_of_months_more y n one))) small)
    (nat_lt days (days_in_month y n)) refl
  where
    later : suc n ≤ m → days_of_months y (n - 1) + days_in_month y n ≤ days_of_months y (m - 1)
    later h = omega (arith, days_of_months_mono y n (m - 1) (omega arith), days_of_months_more y n one)

    same_days : n ≡ m → days_of_months y (n - 1) ≡ days_of_months y (m - 1)
    same_days p = ap (λ i. days_of_months y (i - 1)) p

    same_length : n ≡ m → days_in_month y n ≡ days_in_month y m
    same_length p = ap (days_in_month y) p

    by_test : (n < m → days_in_month y n ≤ days → split_months k y (n + 1) (days - days_in_month y n) ≡ split m r) → (b : Bool) → nat_lt days (days_in_month y n) ≡ b → cond b (split n days) (split_months k y (n + 1) (days - days_in_month y n)) ≡ split m r
    by_test more true t =
        let below : days < days_in_month y n = grind (arith, nat_tests) in
        let here : n ≡ m = elim (le_cases n m low) [ inl before ↦ absurd (omega (arith, later before)) | inr same ↦ same ] in
        let days_are : days ≡ r = omega (arith, same_days here) in
        split_same n m days r here days_are
    by_test more false t =
        let above : days_in_month y n ≤ days = grind (arith, nat_tests) in
        let past : n < m = elim (le_cases n m low) [ inl before ↦ before | inr same ↦ absurd (omega (arith, same_days same, same_length same)) ] in
        more past above

abbrev day_of : ℤ → ℕ → ℕ → CalendarDay
day_of y m d = record { year = y; month = m; day = d; day_of_year = day_of_year y m d }

calendar_from : (number year : ℤ) (n rest m r : ℕ) → split_years 20_000 0 (unsigned_abs (number +ℤ pos (day_count (pos 1970) 1 1))) ≡ split n rest → pos n -ℤ pos 10_000 ≡ year → split_months 11 year 1 rest ≡ split m r → calendar_day number ≡ record { year = year; month = m; day = r + 1; day_of_year = rest + 1 }
unfolding calendar_day
calendar_from number year n rest m r years named months = rw (years, named, months) refl

same_day : (y : ℤ) (m d e o p : ℕ) → d ≡ e → o ≡ p → ◌≡◌ {A = CalendarDay} (record { year = y; month = m; day = d; day_of_year = o }) (record { year = y; month = m; day = e; day_of_year = p })
same_day y m d e o p q r = cc

day_count-parts : (y : ℤ) (m d : ℕ) → day_count y m d ≡ days_of_years (unsigned_abs (y +ℤ pos 10_000)) + (day_of_year y m d - 1)
unfolding day_count
day_count-parts y m d = refl

years_zero : days_of_years 0 ≡ 0
unfolding days_of_years
years_zero = refl

months_zero : (y : ℤ) → days_of_months y 0 ≡ 0
unfolding days_of_months
months_zero y = refl

shifted_back : (y : ℤ) → neg_ℤ (pos 10_000) ≤ℤ y → pos (unsigned_abs (y +ℤ pos 10_000)) -ℤ pos 10_000 ≡ y
shifted_back y h = omega (arith, ints)

counted : (number : ℤ) (count : ℕ) → up number + 4_371_953 ≡ down number + count → unsigned_abs (number +ℤ pos 4_371_953) ≡ count
counted number count h = omega (arith, signed_arith, one_part (number +ℤ pos 4_371_953))

-- the calendar day of a date's day number is the date
pub calendar_day-days_from_civil : (y : ℤ) (m d : ℕ) → IsCivilDate y m d → calendar_day (days_from_civil y m d) ≡ day_of y m d
calendar_day-days_from_civil y m d valid =
    let n : ℕ = unsigned_abs (y +ℤ pos 10_000) in
    let named : pos n -ℤ pos 10_000 ≡ y = shifted_back y (omega (arith, signed_arith)) in
    let number : unsigned_abs (days_from_civil y m d +ℤ pos (day_count (pos 1970) 1 1)) ≡ day_count y m d =
    rw day_count-epoch (counted (days_from_civil y m d) (day_count y m d) (days_from_civil-day_count y m d)) in
    let in_year : day_of_year y m d ≤ days_in_year y = day_of_year_bound y m d valid in
    let first : 1 ≤ day_of_year y m d = omega arith in
    let year_is : year_length n ≡ days_in_year y = ap days_in_year named in
    let years : split_years 20_000 0 (unsigned_abs (days_from_civil y m d +ℤ pos (day_count (pos 1970) 1 1))) ≡ split n (day_of_year y m d - 1) =
    rw number (years_split 20_000 0 n (day_of_year y m d - 1) (day_count y m d) (omega arith) (omega (arith, signed_arith))
    (omega (arith, years_zero, day_count-parts y m d)) (omega arith)) in
    let months : split_months 11 y 1 (day_of_year y m d - 1) ≡ split m (d - 1) =
    months_split 11 y 1 m (d - 1) (day_of_year y m d - 1) (omega arith) (omega arith) (omega arith)
    (omega (arith, months_zero y)) (omega arith) in
    calendar_from (days_from_civil y m d) y n (day_of_year y m d - 1) m (d - 1) years named months
    ∙ same_day y m (d - 1 + 1) d (day_of_year y m d - 1 + 1) (day_of_year y m d) (omega arith) (omega arith)

time_of_day : (dt : DateTime) → unsigned_abs (int_rem_euclid (civil_nanos dt) (pos 86_400_000_000_000)) ≡ time_nanos dt.time
time_of_day dt =
    omega (arith, signed_arith, one_part (int_rem_euclid (civil_nanos dt) (pos 86_400_000_000_000)), epoch_day-civil_nanos dt, civil_nanos-parts dt)

hour_of : (t : Time) → time_nanos t / 3_600_000_000_000 ≡ t.hour
hour_of t = omega arith

minute_of : (t : Time) → time_nanos t / 60_000_000_000 % 60 ≡ t.minute
minute_of t = omega arith

second_of : (t : Time) → time_nanos t / 1_000_000_000 % 60 ≡ t.second
second_of t = omega arith

nanosecond_of : (t : Time) → time_nanos t % 1_000_000_000 ≡ t.subsec_nanosecond
nanosecond_of t = omega arith

-- a clock shows the datetime that its nanoseconds name
pub clock_at-civil_nanos : (dt : DateTime) (offset : ℤ) (utc : Bool) → clock_at (civil_nanos dt) offset utc ≡ record {
  year = dt.date.year;
  month = dt.date.month;
  day = dt.date.day;
  day_of_year = ordinal dt.date;
  weekday = weekday_of dt.date;
  hour = dt.time.hour;
  minute = dt.time.minute;
  second = dt.time.second;
  nanosecond = dt.time.subsec_nanosecond;
  offset = offset;
  is_utc = utc;
}
unfolding clock_at
clock_at-civil_nanos dt offset utc =
    rw (← epoch_day-civil_nanos dt, time_of_day dt, calendar_day-days_from_civil dt.date.year dt.date.month dt.date.day (civil dt.date))
    (rw (hour_of dt.time, minute_of dt.time, second_of dt.time, nanosecond_of dt.time) refl)
