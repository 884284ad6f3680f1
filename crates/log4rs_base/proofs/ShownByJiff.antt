-- What `jiff` shows by the format of a directive is what the definition says.
use Rattle.std.proofs.Common.{◌≡◌, ◌++◌, ℕ, ℤ, pos, List, [], ◌∷◌, Ok, refl, ap, codes, arith, true, false, nat_le, nat_lt, Bool, if◌then◌else◌, append_assoc, int_lt, ◌≤ℤ◌, unsigned_abs, sym, ◌∙◌}
use Rattle.std.proofs.lemmas.Int.{ints}
use Rattle.std.specs.Int.{IsInRange}
use Rattle.std.proofs.lemmas.Bool.Decides.{nat_tests}
use Rattle.jiff_strtime.specs.Directive.{colon_rest, read_flag}
use Rattle.jiff_strtime.specs.Show.{Context, show_format, show_steps, text_of, directive_text as shown_directive, items_from, meridiem_text, Shown, IsShownAs}
use Rattle.jiff_strtime.specs.declared.tm.Meridiem.TheVariants.{AM, PM}
use Rattle.jiff_strtime.specs.declared.directive.Config.{Config}
use Rattle.jiff_strtime.specs.declared.directive.Locale.{Locale}
use Rattle.jiff_strtime.specs.declared.directive.Locale.TheVariants as Locales
use Rattle.log4rs_base.specs.Clock.{ClockFields}
use Rattle.log4rs_base.specs.Printed.{ShowsClock, HasClock}
use Rattle.jiff_core.specs.Calendar.{IsBetween}
use Rattle.jiff_strtime.specs.declared.tm.BrokenDownTime.{BrokenDownTime}
use Rattle.log4rs_base.specs.Standard.{standard_text, standard_format, twelve_hour}
use Rattle.log4rs_base.specs.declared.dates.standard.Standard.{Standard}
use Rattle.log4rs_base.specs.declared.dates.standard.Standard.TheVariants.{Year, Month, Day, Hour, Minute, Second, DayOfYear, SpacedDay, TwelveHour, Meridiem, ShortWeekday, Weekday, ShortMonth, MonthName, IsoDate, Time, HourMinute, Percent}

abbrev pub strict : Config
strict = record { locale = Locales.Default; lenient = false }

zero_le : (n : ℕ) → nat_le 0 n ≡ true
zero_le n = grind (arith, nat_tests)

not_negative : (n : ℕ) → int_lt (pos n) (pos 0) ≡ false
not_negative n = grind (arith, nat_tests, ints)

append_nil : (xs : List ℕ) → xs ++ [] ≡ xs
append_nil [] = refl
append_nil (x ∷ xs) = ap (λ t. x ∷ t) (append_nil xs)

in_months : (m : ℕ) → IsInRange 1 12 m → (nat_lt m 1 ≡ false)
in_months m r = grind (arith, nat_tests)

below_end : (m : ℕ) → IsInRange 1 12 m → (nat_lt 12 m ≡ false)
below_end m r = grind (arith, nat_tests)

half_day : (b : Bool) → ◌≡◌ {A = Shown} (Ok (meridiem_text (if b then AM else PM) true ++ [])) (Ok (if b then codes "AM" else codes "PM"))
half_day true = refl
half_day false = refl

-- where the year is not below zero and the month is one of the calendar's
pub shown_standard : (d : Standard) (c : ClockFields) (year : ℕ) (cx : Context) → c.year ≡ pos year → IsInRange 1 12 c.month → ShowsClock c cx.parts → show_format strict (standard_format d) cx ≡ Ok (standard_text d c)
unfolding read_flag colon_rest shown_directive text_of show_steps items_from
shown_standard Year c year cx y m s = rw (s.year, y) (simp (zero_le year, append_nil))
shown_standard Month c year cx y m s = rw s.month (simp (zero_le c.month, append_nil))
shown_standard Day c year cx y m s = rw s.day (simp (zero_le c.day, append_nil))
shown_standard Hour c year cx y m s = rw s.hour (simp (zero_le c.hour, append_nil))
shown_standard Minute c year cx y m s = rw s.minute (simp (zero_le c.minute, append_nil))
shown_standard Second c year cx y m s = rw s.second (simp (zero_le c.second, append_nil))
shown_standard DayOfYear c year cx y m s = rw s.day_of_year (simp (zero_le c.day_of_year, append_nil))
shown_standard SpacedDay c year cx y m s = rw s.day (simp (zero_le c.day, append_nil))
shown_standard TwelveHour c year cx y m s = rw s.hour (simp (zero_le (twelve_hour c.hour), append_nil))
shown_standard Meridiem c year cx y m s = rw s.meridiem (half_day (nat_lt c.hour 12))
shown_standard ShortWeekday c year cx y m s = rw s.weekday (simp append_nil)
shown_standard Weekday c year cx y m s = rw s.weekday (simp append_nil)
shown_standard ShortMonth c year cx y m s = rw s.month (simp (in_months c.month m, below_end c.month m, append_nil))
shown_standard MonthName c year cx y m s = rw s.month (simp (in_months c.month m, below_end c.month m, append_nil))
shown_standard IsoDate c year cx y m s = rw (s.year, y, s.month, s.day) (simp (not_negative year, not_negative c.month, not_negative c.day, append_nil, append_assoc))
shown_standard Time c year cx y m s = rw (s.hour, s.minute, s.second) (simp (not_negative c.hour, not_negative c.minute, not_negative c.second, append_nil, append_assoc))
shown_standard HourMinute c year cx y m s = rw (s.hour, s.minute) (simp (not_negative c.hour, not_negative c.minute, append_nil, append_assoc))
shown_standard Percent c year cx y m s = refl

abbrev configured : Locale → Bool → Config
configured locale lenient = record { locale = locale; lenient = lenient }

same_config : (config : Config) → config.locale ≡ Locales.Default → config.lenient ≡ false → config ≡ strict
same_config config p q = ap (λ l. configured l config.lenient) p ∙ ap (λ b. configured Locales.Default b) q

year_from : (y : ℤ) → pos 0 ≤ℤ y → y ≡ pos (unsigned_abs y)
year_from y h = omega (arith, ints)

-- what the strict configuration shows by such a format
pub shown_as_text : (d : Standard) (c : ClockFields) (config : Config) (format : List ℕ) (tm : BrokenDownTime) (text : List ℕ) → IsBetween (pos 0) (pos 9999) c.year → IsInRange 1 12 c.month → HasClock c tm → config.locale ≡ Locales.Default → config.lenient ≡ false → format ≡ standard_format d → IsShownAs config format tm (Ok text) → text ≡ standard_text d c
shown_as_text d c config format tm text y m s locale strictly is shown =
    let shows : ShowsClock c shown.context.parts = rw shown.is_context.parts s in
    let by_jiff = shown_standard d c (unsigned_abs c.year) shown.context (year_from c.year y.0) m shows in
    let same : ◌≡◌ {A = Shown} (Ok text) (Ok (standard_text d c)) = rw (← by_jiff, ← is, ← same_config config locale strictly) (sym shown.shown_is) in
    cc
