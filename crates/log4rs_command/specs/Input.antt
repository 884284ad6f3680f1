-- The lines of an input.
use Rattle.std.specs.Prelude.{◌≡◌, ℕ, ◌==◌, List, [], ◌∷◌, ◌++◌, Option, None, Some, if◌then◌else◌}
use Rattle.std.specs.List.{onto_first}

abbrev pub line_feed : ℕ
line_feed = 10

-- the lines, without their LF; what follows the last LF is a line where it is not empty
abbrev pub lines_of : List ℕ → List (List ℕ)
lines_of [] = []
lines_of (b ∷ bs) = if b == line_feed then [] ∷ lines_of bs else onto_first b (lines_of bs)

-- these lines were taken from the known bytes
abbrev pub Takes : Option (List ℕ) → Option (List ℕ) → List (List ℕ) → Type 0
Takes None new lines = Unit {0}
Takes (Some bytes) new lines =
    (rest : List ℕ) × (new ≡ Some rest) × (lines_of bytes ≡ lines ++ lines_of rest)

-- no line is left of the known bytes
abbrev pub IsDone : Option (List ℕ) → Type 0
IsDone None = Unit {0}
IsDone (Some bytes) = lines_of bytes ≡ []
