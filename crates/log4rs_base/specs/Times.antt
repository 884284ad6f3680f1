-- Times in a path.
use Rattle.std.specs.Prelude.{ℕ, zero, suc, ◌+◌, ◌++◌, ℤ, List, [], ◌∷◌, length, codes}
use Rattle.jiff_tz.specs.declared.timezone.TimeZone.{TimeZone}
use Rattle.log4rs_base.specs.Clock.{ClockFields, local_clock}
use Rattle.log4rs_base.specs.DateFormat.{match_some, date_text}
use Rattle.log4rs_base.specs.Placeholder.{Values, enclosed, time_opening}

-- the placeholder of a format
abbrev pub time_placeholder : List ℕ → List ℕ
time_placeholder format = time_opening ++ format ++ codes "}"

-- how many bytes it has behind its `$`
abbrev pub left_of_time : List ℕ → ℕ
left_of_time format = length format + 6

-- a path with `count` more dates, read once from the left: where a placeholder stands, its date, or
-- where it has none itself, and what is read behind it; else a byte, and what is read behind that.
-- `taken` bytes at the front belong to a placeholder that is read already
unfoldable pub times_from : Values → ℕ → ℕ → List ℕ → List ℕ
times_from date count taken [] = []
times_from date count (suc taken) (b ∷ rest) = times_from date count taken rest
times_from date zero zero (b ∷ rest) = b ∷ rest
times_from date (suc count) zero (b ∷ rest) =
    match_some (enclosed time_opening (b ∷ rest))
    (b ∷ times_from date (suc count) 0 rest)
    (λ format.
    match_some (date format)
    (time_placeholder format ++ times_from date (suc count) (left_of_time format) rest)
    (λ text. text ++ times_from date count (left_of_time format) rest))

-- the date of a format by a clock: none where the format is refused, or the year has no text
unfoldable pub date_by : ClockFields → Values
date_by clock format = date_text format clock

-- a path with dates in place of the first five `$TIME{format}` that have one
abbrev pub expanded_time : TimeZone → ℤ → List ℕ → List ℕ
expanded_time zone moment path = times_from (date_by (local_clock zone moment)) 5 0 path
