-- What is found at one place of a list after another.
use Rattle.std.specs.Prelude.{ℕ, ◌+◌, Bool, List, [], ◌∷◌, ◌++◌, if◌then◌else◌}

-- what is found at each of these, whose places are counted from a number on, or from 0
abbrev pub each_from : {A B : Type 0} → (ℕ → A → List B) → ℕ → List A → List B
each_from found n [] = []
each_from found n (x ∷ xs) = found n x ++ each_from found (n + 1) xs

abbrev pub each_at : {A B : Type 0} → (ℕ → A → List B) → List A → List B
each_at found xs = each_from found 0 xs

-- one item where something holds, and else none
abbrev pub if_so : {A : Type 0} → Bool → A → List A
if_so holds item = if holds then item ∷ [] else []
