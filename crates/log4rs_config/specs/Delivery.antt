-- Deliveries one after another.
use Rattle.std.specs.Prelude.{◌≡◌, ℕ, List, [], ◌∷◌, map}
use Rattle.log4rs_config.specs.Destinations.{Outcome}

-- each delivery, a place and its result, was one append there, in order
abbrev pub DeliveredBy : {D : Type 0}
    → (ℕ → Outcome → D → D → Type 0) → List (ℕ × Outcome) → D → D → Type 0
DeliveredBy appends [] before after = after ≡ before
DeliveredBy {D} appends ((at, outcome) ∷ made) before after =
    (between : D) × appends at outcome before between × DeliveredBy appends made between after

-- there was one at each of these places, in order
pub record AreMade
    {D : Type 0} (appends : ℕ → Outcome → D → D → Type 0)
    (places : List ℕ) (made : List (ℕ × Outcome)) (before after : D) : Type 0 where
  pub at_places : map (λ d. d.0) made ≡ places
  pub delivered : DeliveredBy appends made before after
