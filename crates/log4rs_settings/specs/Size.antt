-- Sizes.
use Rattle.std.specs.Prelude.{ℕ, ◌^◌, ◌*◌, Bool, ◌||◌, List, [], codes, Option, Some, None}
use Rattle.std.specs.Prelude.{if◌then◌else◌}
use Rattle.std.specs.Option.{option_and_then}
use Rattle.std.specs.Str.{trim, str_eq_ignore_ascii_case, bytes_eq}
use Rattle.log4rs_settings.specs.Number.{number_told, behind_number, if_below}

-- a unit has one of two names, in any ASCII case
abbrev pub is_either : List ℕ → List ℕ → List ℕ → Bool
is_either unit short long =
    str_eq_ignore_ascii_case unit short || str_eq_ignore_ascii_case unit long

-- the bytes of each unit
abbrev pub bytes_of : List ℕ → Option ℕ
bytes_of unit =
    if str_eq_ignore_ascii_case unit (codes "b") then Some 1 else (
    if is_either unit (codes "kb") (codes "kib") then Some (2 ^ 10) else (
    if is_either unit (codes "mb") (codes "mib") then Some (2 ^ 20) else (
    if is_either unit (codes "gb") (codes "gib") then Some (2 ^ 30) else (
    if is_either unit (codes "tb") (codes "tib") then Some (2 ^ 40) else None))))

-- the bytes of what stands behind a number:
-- of one byte where that is nothing, else of the unit with white space around it
abbrev pub bytes_behind : List ℕ → Option ℕ
bytes_behind rest = if bytes_eq rest [] then Some 1 else bytes_of (trim rest)

-- a number and what stands behind it, in bytes, if 64 bits hold them
abbrev pub size_of : ℕ → List ℕ → Option ℕ
size_of n rest = option_and_then (λ bytes. if_below (2 ^ 64) (n * bytes)) (bytes_behind rest)

-- the bytes that a text says: a number, and behind it nothing or a unit
abbrev pub bytes_told : List ℕ → Option ℕ
bytes_told text = option_and_then (λ n. size_of n (behind_number text)) (number_told text)
