-- The characters of a class.
use Rattle.std.specs.Prelude.{ℕ, Bool}
use Rattle.std.specs.Char.{is_ascii_digit}
use Rattle.log4rs_encode.specs.Scan.{is_plain, is_alphanumeric}
use Rattle.log4rs_encode.specs.declared.pattern.scan.Class.{Class}
use Rattle.log4rs_encode.specs.declared.pattern.scan.Class.TheVariants.{Plain, Alphanumeric, Digit}

abbrev pub in_class : Class → ℕ → Bool
in_class Plain = is_plain
in_class Alphanumeric = is_alphanumeric
in_class Digit = is_ascii_digit
