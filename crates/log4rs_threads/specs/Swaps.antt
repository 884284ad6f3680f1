-- Lists of swaps.
use Rattle.std.specs.Prelude.{◌≡◌, List, ◌++◌}
use Rattle.logbook.specs.Pages.{Book}

-- the list begins with these, in order
abbrev pub StartsWith : {L : Type 0} → List L → List L → Type 0
StartsWith swaps first = (rest : List _) × (swaps ≡ first ++ rest)

-- what is told of a history: what was published so far, in order, and of which history
pub record Tidings (L : Type 0) : Type 0 where
  pub swaps : List L
  pub book : Book
