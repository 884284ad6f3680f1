-- Components of the caller's that are made anew for each reading of a configuration.
use Rattle.std.specs.Prelude.{◌≡◌, List, [], ◌∷◌, ⊤}
use Rattle.log4rs_base.specs.Text.{Text}
use Rattle.log4rs_parts.specs.Waits.{Waits, no_waits, waits_in, with_part}
use Rattle.log4rs_parts.specs.declared.handed.Handed.{Handed}
use Rattle.log4rs_parts.specs.declared.handed.HandedInOf.{HandedInOf}

-- over what each maker makes
module _ {P Q : Type 0} (Makes : P → Q → Type 0) where
  -- one component of each maker, in order, each for the appender that its maker is for
  abbrev pub AreMade : List (Text × P) → List (Text × Q) → Type 0
  AreMade [] [] = ⊤
  AreMade (m ∷ ms) (p ∷ ps) = (p.0 ≡ m.0) × Makes m.1 p.1 × AreMade ms ps
  AreMade _ _ = ⊥

module _ {A F E T : Type 0} where
  -- several components more, one after another
  abbrev pub with_parts : List (Text × HandedInOf A F E T) → Waits A F E T → Waits A F E T
  with_parts [] w = w
  with_parts (p ∷ ps) w = with_parts ps (with_part p.0 p.1 w)

  module _ {P : Type 0} (Makes : P → HandedInOf A F E T → Type 0) where
    -- one component of each maker more
    abbrev pub Fills : List (Text × P) → Waits A F E T → Waits A F E T → Type 0
    Fills makers w w' =
        (parts : List (Text × HandedInOf A F E T))
        × AreMade Makes makers parts
        × (w' ≡ with_parts parts w)

    -- one component of each maker waits, and nothing else
    abbrev pub IsFilled : List (Text × P) → Handed A F E T → Type 0
    IsFilled makers h = Fills makers no_waits (waits_in h)
