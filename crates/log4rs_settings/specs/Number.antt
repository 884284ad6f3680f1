-- A number in front of a unit.
use Rattle.std.specs.Prelude.{ℕ, ◌^◌, nat_lt, List, [], ◌∷◌, Option, Some, None, if◌then◌else◌}
use Rattle.std.specs.Str.Parse.{digits_value}
use Rattle.log4rs_settings.specs.Leading.{leading, after_leading}
use Rattle.log4rs_settings.specs.declared.units.Class.TheVariants.{Digit}

-- a number, if it is below a limit
abbrev pub if_below : ℕ → ℕ → Option ℕ
if_below limit n = if nat_lt n limit then Some n else None

-- the number that digits write, if there are any, and it has at most 64 bits
abbrev pub value_of : List ℕ → Option ℕ
value_of [] = None
value_of (d ∷ ds) = if_below (2 ^ 64) (digits_value 10 (d ∷ ds))

-- the number that the digits at the front of a text write
abbrev pub number_told : List ℕ → Option ℕ
number_told text = value_of (leading Digit text)

-- what stands behind those digits
abbrev pub behind_number : List ℕ → List ℕ
behind_number text = after_leading Digit text
