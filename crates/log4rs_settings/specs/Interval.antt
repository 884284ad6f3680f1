-- Intervals.
use Rattle.std.specs.Prelude.{ℕ, ◌^◌, ℤ, pos, Bool, ◌||◌, List, [], codes, Option, Some, None}
use Rattle.std.specs.Prelude.{if◌then◌else◌}
use Rattle.std.specs.Option.{option_and_then}
use Rattle.std.specs.Str.{trim, str_eq_ignore_ascii_case, bytes_eq}
use Rattle.log4rs_settings.specs.Number.{number_told, behind_number, if_below}
use Rattle.log4rs_base.specs.declared.dates.interval.TimeTriggerInterval.{TimeTriggerInterval}
use Rattle.log4rs_base.specs.declared.dates.interval.TimeTriggerInterval.TheVariants.{Second, Minute}
use Rattle.log4rs_base.specs.declared.dates.interval.TimeTriggerInterval.TheVariants.{Hour, Day, Week}
use Rattle.log4rs_base.specs.declared.dates.interval.TimeTriggerInterval.TheVariants.{Month, Year}

-- a unit has this name, of one or of several, in any ASCII case
abbrev pub is_unit : List ℕ → List ℕ → List ℕ → Bool
is_unit unit one several =
    str_eq_ignore_ascii_case unit one || str_eq_ignore_ascii_case unit several

-- so many of a unit
abbrev pub interval_of : ℤ → List ℕ → Option TimeTriggerInterval
interval_of n unit =
    if is_unit unit (codes "second") (codes "seconds") then Some (Second n) else (
    if is_unit unit (codes "minute") (codes "minutes") then Some (Minute n) else (
    if is_unit unit (codes "hour") (codes "hours") then Some (Hour n) else (
    if is_unit unit (codes "day") (codes "days") then Some (Day n) else (
    if is_unit unit (codes "week") (codes "weeks") then Some (Week n) else (
    if is_unit unit (codes "month") (codes "months") then Some (Month n) else (
    if is_unit unit (codes "year") (codes "years") then Some (Year n) else None))))))

-- so many of what stands behind a number:
-- seconds where that is nothing, else of the unit with white space around it
abbrev pub interval_behind : ℤ → List ℕ → Option TimeTriggerInterval
interval_behind n rest = if bytes_eq rest [] then Some (Second n) else interval_of n (trim rest)

-- the interval that a text says: a number below 2^63, and behind it nothing or a unit
abbrev pub interval_told : List ℕ → Option TimeTriggerInterval
interval_told text =
    option_and_then (λ n. interval_behind (pos n) (behind_number text))
    (option_and_then (if_below (2 ^ 63)) (number_told text))
