-- Placeholders of a path: an opening as `$ENV{`, a text without a `}`, and a `}`.
use Rattle.std.specs.Prelude.{◌==◌, nat_eq, ℕ, Bool, List, length, drop, Option, Some, None, codes}
use Rattle.std.specs.Prelude.{if◌then◌else◌}
use Rattle.std.specs.List.{list_any, starts_with, before_first}

abbrev pub close_brace : ℕ
close_brace = 125

abbrev pub closes : ℕ → Bool
closes b = b == close_brace

-- what stands before the first `}` of a text, if it has one
abbrev pub until_brace : List ℕ → Option (List ℕ)
until_brace text = if list_any closes text then Some (before_first closes text) else None

-- what the placeholder at the front of a text encloses, if the text begins with one
abbrev pub enclosed : List ℕ → List ℕ → Option (List ℕ)
enclosed opening text =
    if starts_with nat_eq text opening then until_brace (drop (length opening) text) else None

-- what stands for the inner text of a placeholder, if something does
abbrev pub Values : Type 0
Values = List ℕ → Option (List ℕ)

abbrev pub env_opening : List ℕ
env_opening = codes "$ENV{"

abbrev pub time_opening : List ℕ
time_opening = codes "$TIME{"
