-- Durations.
use Rattle.std.specs.Prelude.{ℕ, zero, suc, ◌+◌, ◌^◌, ◌*◌, Bool, List, [], ◌∷◌, length, codes}
use Rattle.std.specs.Prelude.{Option, Some, None, option_map, if◌then◌else◌}
use Rattle.std.specs.Option.{option_and_then}
use Rattle.std.specs.List.{list_any}
use Rattle.std.specs.Str.{bytes_eq}
use Rattle.log4rs_settings.specs.Leading.{leading, after_leading}
use Rattle.log4rs_settings.specs.Number.{number_told, behind_number, if_below}
use Rattle.log4rs_settings.specs.declared.units.Class.TheVariants.{Letter, Space}

-- a unit has one of these names
abbrev pub is_one_of : List (List ℕ) → List ℕ → Bool
is_one_of names unit = list_any (bytes_eq unit) names

-- the milliseconds of each unit
abbrev pub milliseconds_of : List ℕ → Option ℕ
milliseconds_of unit =
    if is_one_of (codes "ms" ∷ codes "msec" ∷ []) unit
    then Some 1 else (
    if is_one_of (codes "s" ∷ codes "sec" ∷ codes "second" ∷ codes "seconds" ∷ []) unit
    then Some 1000 else (
    if is_one_of (codes "m" ∷ codes "min" ∷ codes "minute" ∷ codes "minutes" ∷ []) unit
    then Some 60000 else (
    if is_one_of (codes "h" ∷ codes "hr" ∷ codes "hour" ∷ codes "hours" ∷ []) unit
    then Some 3600000 else (
    if is_one_of (codes "d" ∷ codes "day" ∷ codes "days" ∷ []) unit
    then Some 86400000 else (
    if is_one_of (codes "w" ∷ codes "week" ∷ codes "weeks" ∷ []) unit
    then Some 604800000 else None)))))

-- a text from its unit on: behind a number, and behind spaces
abbrev pub from_unit : List ℕ → List ℕ
from_unit text = after_leading Space (behind_number text)

-- the milliseconds of the number and the unit at the front of a text, if 64 bits hold them
abbrev pub part_told : List ℕ → Option ℕ
part_told text =
    option_and_then
    (λ n.
    option_and_then (λ ms. if_below (2 ^ 64) (n * ms))
    (milliseconds_of (leading Letter (from_unit text))))
    (number_told text)

-- what stands behind that unit
abbrev pub behind_part : List ℕ → List ℕ
behind_part text = after_leading Letter (from_unit text)

-- n more than the sum that `sum` finds behind spaces, where there is anything
abbrev pub with_rest : (List ℕ → Option ℕ) → List ℕ → ℕ → Option ℕ
with_rest sum [] n = Some n
with_rest sum (b ∷ bs) n = option_map (λ more. n + more) (sum (after_leading Space (b ∷ bs)))

-- the sum of the parts of a text, of which there are no more than `bound`
abbrev pub parts_sum : ℕ → List ℕ → Option ℕ
parts_sum zero text = None
parts_sum (suc bound) text =
    option_and_then (with_rest (parts_sum bound) (behind_part text)) (part_told text)

-- the milliseconds that a text says, in parts with spaces between them, if 64 bits hold them
abbrev pub milliseconds_told : List ℕ → Option ℕ
milliseconds_told text = option_and_then (if_below (2 ^ 64)) (parts_sum (length text) text)
