-- The first placeholder of a time in a text.
use Rattle.std.specs.Prelude.{◌≡◌, ◌++◌, ◌<◌, ℕ, List, ◌∷◌, length, drop, Some, None}
use Rattle.log4rs_base.specs.Placeholder.{close_brace, enclosed, time_opening}

-- at no place does a placeholder begin
abbrev pub NeverOpens : List ℕ → Type 0
NeverOpens text = (i : ℕ) → i < length text → enclosed time_opening (drop i text) ≡ None

-- the first placeholder encloses this format, and stands between these two
pub record IsFirst (text before format behind : List ℕ) : Type 0 where
  pub whole : text ≡ before ++ (time_opening ++ (format ++ close_brace ∷ behind))
  pub earlier : (i : ℕ) → i < length before → enclosed time_opening (drop i text) ≡ None
  pub here : enclosed time_opening (drop (length before) text) ≡ Some format
