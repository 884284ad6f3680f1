-- The paths that changes touch.
use Rattle.std.specs.Prelude.{◌≡◌, ◌⊎◌, ℕ, List, [], ◌∷◌}
use Rattle.log4rs_rolling.specs.Change.{Change, opened, wrote, renamed, copied, removed}

abbrev pub IsAmong : List ℕ → List (List ℕ) → Type 0
IsAmong path [] = ⊥
IsAmong path (name ∷ names) = (path ≡ name) ⊎ IsAmong path names

-- a change of files of these names, and of no other
abbrev pub IsOf : List (List ℕ) → Change → Type 0
IsOf names (opened path how) = IsAmong path names
IsOf names (wrote path bytes) = IsAmong path names
IsOf names (renamed from to) = IsAmong from names × IsAmong to names
IsOf names (copied from to) = IsAmong from names × IsAmong to names
IsOf names (removed path) = IsAmong path names

-- no file of another name is touched
abbrev pub OnlyOf : List (List ℕ) → List Change → Type 0
OnlyOf names [] = Unit {0}
OnlyOf names (change ∷ changes) = IsOf names change × OnlyOf names changes
