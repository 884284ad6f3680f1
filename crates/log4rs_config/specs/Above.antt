-- The name that governs the parent of each name.
use Rattle.std.specs.Prelude.{◌≡◌, ℕ, ◌-◌, List, ◌∷◌, ◌++◌, Option, Some, None, take, length, slice_get}
use Rattle.log4rs_base.specs.Text.{Text}
use Rattle.log4rs_config.specs.Name.{components}
use Rattle.log4rs_config.specs.Walk.{longest, name_at}

-- the components but the last
abbrev pub parents : List Text → List Text
parents parts = take (length parts - 1) parts

-- beside each name, if it is known, the place of the one that governs its parent
abbrev pub AreAbove : List Text → List (Option ℕ) → Type 0
AreAbove names above =
    (i : ℕ) (name : Text) (up : Option ℕ) → slice_get names i ≡ Some name
    → slice_get above i ≡ Some up
    → up ≡ longest (name_at names) None (parents (components name))

-- a name has the components of another, and more
abbrev pub IsBelow : Text → Text → Type 0
IsBelow name front =
    (part : Text) × (parts : List Text) × (components name ≡ components front ++ part ∷ parts)
