-- Runs of characters of one class at the front of a text.
use Rattle.std.specs.Prelude.{ℕ, Bool, ◌==◌, List, drop}
use Rattle.std.specs.Char.{is_ascii_digit, is_ascii_alphabetic}
use Rattle.std.specs.List.{take_while, prefix_len}
use Rattle.log4rs_settings.specs.declared.units.Class.{Class}
use Rattle.log4rs_settings.specs.declared.units.Class.TheVariants.{Digit, Letter, Space}

-- the byte is a character of the class
abbrev pub in_class : Class → ℕ → Bool
in_class Digit b = is_ascii_digit b
in_class Letter b = is_ascii_alphabetic b
in_class Space b = b == 32

-- the longest run of a class at the front of a text
abbrev pub leading : Class → List ℕ → List ℕ
leading class text = take_while (in_class class) text

-- what follows that run
abbrev pub after_leading : Class → List ℕ → List ℕ
after_leading class text = drop (prefix_len (in_class class) text) text
