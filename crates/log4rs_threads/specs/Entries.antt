-- The entries of a history: each has what it publishes, or nothing where it opens the history,
-- and names the pen that adds the next.
use Rattle.std.specs.Prelude.{◌≡◌, ℕ, ◌+◌, ◌-◌, ◌<◌, true, false, List, [], ◌∷◌, ◌++◌, length}
use Rattle.std.specs.Prelude.{Option}
use Rattle.std.specs.Option.{option_to_list}
use mathlib.Core.List.{IsPrefix}
use Rattle.logbook.specs.Pages.{Book, Cell, Named, Step, View, cell, may_make, may_write, nib}

-- what was published, in order
abbrev pub published : {L : Type 0} → List (Option L × ℕ) → List L
published [] = []
published (entry ∷ entries) = option_to_list entry.0 ++ published entries

-- the last entry names the pen of this key
abbrev pub EndsBy : {L : Type 0} → ℕ → List (Option L × ℕ) → Type 0
EndsBy {L} key entries = (before : List (Option L × ℕ)) × (last : Option L)
    × (entries ≡ before ++ (last, key) ∷ [])

-- behind an entry whose pen was not used there is none: a pen adds one entry, and is used up
abbrev pub IsLast : {L : Type 0} → List Cell → List (Option L × ℕ) → Type 0
IsLast {L} cells entries = (before after : List (Option L × ℕ)) (entry : Option L × ℕ)
    → entries ≡ before ++ entry ∷ after → (cell cells entry.1).1 ≡ false → after ≡ []

-- one where there is an entry
abbrev pub begun : {L : Type 0} → List (Option L × ℕ) → ℕ
begun [] = 0
begun (entry ∷ entries) = 1

-- the first word is the number of entries behind the first, the second tells whether that is there,
-- and nobody adds one more but by the pen that the last names
pub record IsKept {L : Type 0} (cells : List Cell) (entries : List (Option L × ℕ)) : Type 0 where
  pub some : 1 < length cells
  pub counted : cell cells 0 ≡ (length entries - 1, true)
  pub opened : cell cells 1 ≡ (begun entries, true)
  pub last : IsLast cells entries

-- the word that counts
abbrev pub head_of : Book → Named
head_of b = record { tracked = true; key = 0; book = b }

-- entries of which the first alone publishes nothing
abbrev pub IsCounted : {L : Type 0} → ℕ → List (Option L × ℕ) → Type 0
IsCounted swaps entries = (swaps ≡ length (published entries)) × (swaps + 1 ≡ length entries)

-- a pen is given that can be used
abbrev pub Gives : {L : Type 0}
    → Step (Option L × ℕ) → View (Option L × ℕ) ℕ → ℕ → View (Option L × ℕ) ℕ → Type 0
Gives s v found w = (key : ℕ) × (w.1.0 ≡ nib may_make key 0)

-- the first entry was added, or there was one
abbrev pub Begins : {L : Type 0}
    → Step (Option L × ℕ) → View (Option L × ℕ) ℕ → ℕ → View (Option L × ℕ) ℕ → Type 0
Begins s v found w = found ≡ 0 → w.0 ≡ s.ask ∷ []

-- the entry was added behind all that had been seen
abbrev pub Adds : {L : Type 0}
    → Step (Option L × ℕ) → View (Option L × ℕ) ℕ → ℕ → View (Option L × ℕ) ℕ → Type 0
Adds s v found w = w.0 ≡ v.0 ++ s.ask ∷ []

-- the pen is kept, and beginnings whose last entry names it are all that there is
abbrev pub Finds : {L : Type 0}
    → Step (Option L × ℕ) → View (Option L × ℕ) ℕ → ℕ → View (Option L × ℕ) ℕ → Type 0
Finds {L} s v found w = (w.1.0 ≡ v.1.0)
    × (v.1.0.right ≡ may_write → (known : List (Option L × ℕ)) → IsPrefix known v.0
    → EndsBy v.1.0.key known → v.0 ≡ known)
