-- Names of formatters in ASCII.
use Rattle.std.specs.Prelude.{ℕ, Bool, false, ◌&&◌, ◌||◌, List, [], ◌∷◌}
use Rattle.std.specs.List.{list_all}
use Rattle.std.specs.Char.{is_ascii_alphabetic, is_ascii_alphanumeric}
use Rattle.log4rs_encode.specs.Scan.{begins, close_brace}
use Rattle.log4rs_encode.specs.Width.{colon}

-- a letter, and then letters and digits
abbrev pub is_ascii_name : List ℕ → Bool
is_ascii_name [] = false
is_ascii_name (c ∷ cs) = is_ascii_alphabetic c && list_all is_ascii_alphanumeric cs

-- a `:` or a `}`
abbrev pub ends_name : List ℕ → Bool
ends_name cs = begins colon cs || begins close_brace cs
