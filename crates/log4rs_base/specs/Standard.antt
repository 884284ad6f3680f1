-- What the directives that `jiff` prints stand for.
use Rattle.std.specs.Prelude.{◌-◌, ◌++◌, ◌==◌, ℕ, List, [], ◌∷◌, length, replicate, take, get_or}
use Rattle.std.specs.Prelude.{nat_lt, if◌then◌else◌, codes, unsigned_abs}
use Rattle.std.specs.Fmt.{decimal}
use Rattle.log4rs_base.specs.Clock.{ClockFields}
use Rattle.log4rs_base.specs.declared.dates.standard.Standard.{Standard}
use Rattle.log4rs_base.specs.declared.dates.standard.Standard.TheVariants.{Year, Month, Day, Hour, Minute}
use Rattle.log4rs_base.specs.declared.dates.standard.Standard.TheVariants.{Second, DayOfYear, SpacedDay}
use Rattle.log4rs_base.specs.declared.dates.standard.Standard.TheVariants.{TwelveHour, Meridiem}
use Rattle.log4rs_base.specs.declared.dates.standard.Standard.TheVariants.{ShortWeekday, Weekday}
use Rattle.log4rs_base.specs.declared.dates.standard.Standard.TheVariants.{ShortMonth, MonthName, IsoDate}
use Rattle.log4rs_base.specs.declared.dates.standard.Standard.TheVariants.{Time, HourMinute, Percent}

-- a number in decimal, with zeros in front up to a width
abbrev pub zero_filled : ℕ → ℕ → List ℕ
zero_filled width n = replicate (width - length (decimal n)) 48 ++ decimal n

-- and with spaces
abbrev pub space_filled : ℕ → ℕ → List ℕ
space_filled width n = replicate (width - length (decimal n)) 32 ++ decimal n

abbrev pub two_digits : ℕ → List ℕ
two_digits n = zero_filled 2 n

-- the hour of a 12-hour clock
abbrev pub twelve_hour : ℕ → ℕ
twelve_hour hour = if hour == 0 then 12 else (if nat_lt 12 hour then hour - 12 else hour)

abbrev pub month_names : List (List ℕ)
month_names =
    codes "January" ∷ codes "February" ∷ codes "March" ∷ codes "April"
    ∷ codes "May" ∷ codes "June" ∷ codes "July" ∷ codes "August"
    ∷ codes "September" ∷ codes "October" ∷ codes "November" ∷ codes "December" ∷ []

abbrev pub weekday_names : List (List ℕ)
weekday_names =
    codes "Monday" ∷ codes "Tuesday" ∷ codes "Wednesday" ∷ codes "Thursday" ∷ codes "Friday"
    ∷ codes "Saturday" ∷ codes "Sunday" ∷ []

abbrev pub month_name : ClockFields → List ℕ
month_name c = get_or month_names (c.month - 1) []

abbrev pub weekday_name : ClockFields → List ℕ
weekday_name c = get_or weekday_names c.weekday []

-- the year, which is not below zero
abbrev pub year_text : ClockFields → List ℕ
year_text c = zero_filled 4 (unsigned_abs c.year)

-- `2016-03-20`
abbrev pub iso_date : ClockFields → List ℕ
iso_date c = year_text c ++ codes "-" ++ two_digits c.month ++ codes "-" ++ two_digits c.day

-- `14:22`, and `14:22:20`
abbrev pub hour_minute : ClockFields → List ℕ
hour_minute c = two_digits c.hour ++ codes ":" ++ two_digits c.minute

abbrev pub time_text : ClockFields → List ℕ
time_text c = hour_minute c ++ codes ":" ++ two_digits c.second

-- what a directive prints of a clock
abbrev pub standard_text : Standard → ClockFields → List ℕ
standard_text Year c = year_text c
standard_text Month c = two_digits c.month
standard_text Day c = two_digits c.day
standard_text Hour c = two_digits c.hour
standard_text Minute c = two_digits c.minute
standard_text Second c = two_digits c.second
standard_text DayOfYear c = zero_filled 3 c.day_of_year
standard_text SpacedDay c = space_filled 2 c.day
standard_text TwelveHour c = two_digits (twelve_hour c.hour)
standard_text Meridiem c = if nat_lt c.hour 12 then codes "AM" else codes "PM"
standard_text ShortWeekday c = take 3 (weekday_name c)
standard_text Weekday c = weekday_name c
standard_text ShortMonth c = take 3 (month_name c)
standard_text MonthName c = month_name c
standard_text IsoDate c = iso_date c
standard_text Time c = time_text c
standard_text HourMinute c = hour_minute c
standard_text Percent c = codes "%"

-- the format that has the directive alone
abbrev pub standard_format : Standard → List ℕ
standard_format Year = codes "%Y"
standard_format Month = codes "%m"
standard_format Day = codes "%d"
standard_format Hour = codes "%H"
standard_format Minute = codes "%M"
standard_format Second = codes "%S"
standard_format DayOfYear = codes "%j"
standard_format SpacedDay = codes "%e"
standard_format TwelveHour = codes "%I"
standard_format Meridiem = codes "%p"
standard_format ShortWeekday = codes "%a"
standard_format Weekday = codes "%A"
standard_format ShortMonth = codes "%b"
standard_format MonthName = codes "%B"
standard_format IsoDate = codes "%F"
standard_format Time = codes "%T"
standard_format HourMinute = codes "%R"
standard_format Percent = codes "%%"
