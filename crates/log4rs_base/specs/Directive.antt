-- What a directive of a date format prints.
use Rattle.std.specs.Prelude.{◌/◌, ◌%◌, ◌++◌, ◌==◌, ◌&&◌, not, ℕ, ℤ, pos, int_lt, List, []}
use Rattle.std.specs.Prelude.{if◌then◌else◌, codes, unsigned_abs}
use Rattle.log4rs_base.specs.Clock.{ClockFields}
use Rattle.log4rs_base.specs.Standard.{zero_filled, two_digits, iso_date, time_text, standard_text}
use Rattle.log4rs_base.specs.declared.dates.directive.Directive.{Directive}
use Rattle.log4rs_base.specs.declared.dates.directive.Directive.TheVariants.{Standard, ShortYear}
use Rattle.log4rs_base.specs.declared.dates.directive.Directive.TheVariants.{AmericanDate, Offset}
use Rattle.log4rs_base.specs.declared.dates.directive.Directive.TheVariants.{ColonOffset, ZoneName}
use Rattle.log4rs_base.specs.declared.dates.directive.Directive.TheVariants.{Milliseconds, Microseconds}
use Rattle.log4rs_base.specs.declared.dates.directive.Directive.TheVariants.{Nanoseconds, Timestamp}

-- the last two digits of the year, and `03/20/16`
abbrev pub short_year : ClockFields → List ℕ
short_year c = two_digits (unsigned_abs c.year % 100)

abbrev pub american_date : ClockFields → List ℕ
american_date c = two_digits c.month ++ codes "/" ++ two_digits c.day ++ codes "/" ++ short_year c

-- an offset in whole minutes, its seconds dropped:
-- `+` at zero and above, and so where it is less than a minute
abbrev pub offset_minutes : ℤ → ℕ
offset_minutes offset = unsigned_abs offset / 60

abbrev pub offset_sign : ℤ → List ℕ
offset_sign offset =
    if int_lt offset (pos 0) && not (offset_minutes offset == 0) then codes "-" else codes "+"

-- with what stands between the hours and the minutes
abbrev pub offset_text : List ℕ → ℤ → List ℕ
offset_text colon offset =
    offset_sign offset ++ two_digits (offset_minutes offset / 60) ++ colon
    ++ two_digits (offset_minutes offset % 60)

abbrev pub zone_name : ClockFields → List ℕ
zone_name c = if c.is_utc then codes "UTC" else offset_text (codes ":") c.offset

-- the first 3, 6 or 9 of the nine digits of the nanoseconds
abbrev pub milliseconds : ClockFields → List ℕ
milliseconds c = codes "." ++ zero_filled 3 (c.nanosecond / 1_000_000)

abbrev pub microseconds : ClockFields → List ℕ
microseconds c = codes "." ++ zero_filled 6 (c.nanosecond / 1_000)

abbrev pub nanoseconds : ClockFields → List ℕ
nanoseconds c = codes "." ++ zero_filled 9 c.nanosecond

-- the fewest of these digits that are exact, and none for a whole second
abbrev pub fraction : ClockFields → List ℕ
fraction c =
    if c.nanosecond == 0 then []
    else (if c.nanosecond % 1_000_000 == 0 then milliseconds c
    else (if c.nanosecond % 1_000 == 0 then microseconds c else nanoseconds c))

-- `2016-03-20T14:22:20`
abbrev pub date_time : ClockFields → List ℕ
date_time c = iso_date c ++ codes "T" ++ time_text c

-- `2016-03-20T14:22:20.644420340-08:00`
abbrev pub timestamp_text : ClockFields → List ℕ
timestamp_text c = date_time c ++ fraction c ++ offset_text (codes ":") c.offset

-- what a directive prints of a clock
abbrev pub directive_text : Directive → ClockFields → List ℕ
directive_text (Standard directive) c = standard_text directive c
directive_text ShortYear c = short_year c
directive_text AmericanDate c = american_date c
directive_text Offset c = offset_text [] c.offset
directive_text ColonOffset c = offset_text (codes ":") c.offset
directive_text ZoneName c = zone_name c
directive_text Milliseconds c = milliseconds c
directive_text Microseconds c = microseconds c
directive_text Nanoseconds c = nanoseconds c
directive_text Timestamp c = timestamp_text c
