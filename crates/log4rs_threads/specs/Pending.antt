-- What is left of a load.
use Rattle.std.specs.Prelude.{ℕ, List}

-- the position and the shape of a load, and the places that it is still to be delivered to
pub record Pending : Type 0 where
  pub load : ℕ
  pub shape : ℕ
  pub rest : List ℕ
