-- Formats of dates: bytes that print themselves, and directives behind a `%`.
use Rattle.std.specs.Prelude.{◌==◌, ℕ, zero, suc, Bool, List, [], ◌∷◌, length, if◌then◌else◌}
use Rattle.std.specs.Prelude.{Option, Some, None, codes, option_map, nat_eq, pos, int_le, ◌&&◌}
use Rattle.std.specs.List.{starts_with, flat_map}
use Rattle.log4rs_base.specs.Clock.{ClockFields}
use Rattle.log4rs_base.specs.Directive.{directive_text}
use Rattle.log4rs_base.specs.declared.dates.standard.Standard.TheVariants.{Year, Month, Day, Hour, Minute}
use Rattle.log4rs_base.specs.declared.dates.standard.Standard.TheVariants.{Second, DayOfYear, SpacedDay}
use Rattle.log4rs_base.specs.declared.dates.standard.Standard.TheVariants.{TwelveHour, Meridiem}
use Rattle.log4rs_base.specs.declared.dates.standard.Standard.TheVariants.{ShortWeekday, Weekday}
use Rattle.log4rs_base.specs.declared.dates.standard.Standard.TheVariants.{ShortMonth, MonthName, IsoDate}
use Rattle.log4rs_base.specs.declared.dates.standard.Standard.TheVariants.{Time, HourMinute, Percent}
use Rattle.log4rs_base.specs.declared.dates.directive.Directive.{Directive}
use Rattle.log4rs_base.specs.declared.dates.directive.Directive.TheVariants.{Standard, ShortYear}
use Rattle.log4rs_base.specs.declared.dates.directive.Directive.TheVariants.{AmericanDate, Offset}
use Rattle.log4rs_base.specs.declared.dates.directive.Directive.TheVariants.{ColonOffset, ZoneName}
use Rattle.log4rs_base.specs.declared.dates.directive.Directive.TheVariants.{Milliseconds, Microseconds}
use Rattle.log4rs_base.specs.declared.dates.directive.Directive.TheVariants.{Nanoseconds, Timestamp}

-- what an option holds, by cases
abbrev pub match_some : {A B : Type 0} → Option A → B → (A → B) → B
match_some None none some = none
match_some (Some x) none some = some x

-- the same items after another
abbrev pub prepend : {A : Type 0} → A → Option (List A) → Option (List A)
prepend x items = option_map (λ more. x ∷ more) items

-- a name and the directive that it stands for
pub record Named : Type 0 where
  pub name : List ℕ
  pub directive : Directive

abbrev pub named : List ℕ → Directive → Named
named name directive = record { name = name; directive = directive }

-- the directives by what follows the `%`
abbrev pub directives : List Named
directives =
    named (codes "Y") (Standard Year) ∷ named (codes "m") (Standard Month)
    ∷ named (codes "d") (Standard Day) ∷ named (codes "H") (Standard Hour)
    ∷ named (codes "M") (Standard Minute) ∷ named (codes "S") (Standard Second)
    ∷ named (codes "j") (Standard DayOfYear) ∷ named (codes "e") (Standard SpacedDay)
    ∷ named (codes "I") (Standard TwelveHour) ∷ named (codes "p") (Standard Meridiem)
    ∷ named (codes "a") (Standard ShortWeekday) ∷ named (codes "A") (Standard Weekday)
    ∷ named (codes "b") (Standard ShortMonth) ∷ named (codes "B") (Standard MonthName)
    ∷ named (codes "F") (Standard IsoDate) ∷ named (codes "T") (Standard Time)
    ∷ named (codes "R") (Standard HourMinute) ∷ named (codes "%") (Standard Percent)
    ∷ named (codes "y") ShortYear ∷ named (codes "D") AmericanDate
    ∷ named (codes "z") Offset ∷ named (codes ":z") ColonOffset ∷ named (codes "Z") ZoneName
    ∷ named (codes ".3f") Milliseconds ∷ named (codes ".6f") Microseconds
    ∷ named (codes ".9f") Nanoseconds ∷ named (codes "+") Timestamp ∷ []

-- a directive, and how many bytes its name takes
pub record Found : Type 0 where
  pub directive : Directive
  pub name_length : ℕ

abbrev pub found : Named → Found
found entry = record { directive = entry.directive; name_length = length entry.name }

-- the first entry whose name begins the text
unfoldable pub found_at : List Named → List ℕ → Option Found
found_at [] text = None
found_at (entry ∷ more) text =
    if starts_with nat_eq text entry.name then Some (found entry) else found_at more text

-- an item of a format
pub data Item : Type 0 where
  literal : ℕ → Item
  of_directive : Directive → Item

-- the items of a format, read once from the left; `skip` bytes at the front are read already
unfoldable pub items_from : ℕ → List ℕ → Option (List Item)
items_from skip [] = Some []
items_from (suc skip) (b ∷ rest) = items_from skip rest
items_from zero (b ∷ rest) =
    if b == 37
    then match_some (found_at directives rest) None (λ f.
    prepend (of_directive f.directive) (items_from f.name_length rest))
    else prepend (literal b) (items_from 0 rest)

-- the items of a format, if each `%` begins a directive
abbrev pub format_items : List ℕ → Option (List Item)
format_items format = items_from 0 format

abbrev pub item_text : ClockFields → Item → List ℕ
item_text c (literal b) = b ∷ []
item_text c (of_directive directive) = directive_text directive c

-- the years that a text can show
abbrev pub has_text_year : ClockFields → Bool
has_text_year c = int_le (pos 0) c.year && int_le c.year (pos 9999)

-- what the items of a format print of a clock, if its year can be shown
abbrev pub items_text : List Item → ClockFields → Option (List ℕ)
items_text items c = if has_text_year c then Some (flat_map (item_text c) items) else None

-- the text of a date: none where the format is refused or the year is out of range
abbrev pub date_text : List ℕ → ClockFields → Option (List ℕ)
date_text format c = match_some (format_items format) None (λ items. items_text items c)
