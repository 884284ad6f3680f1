-- Moves of files: a rename, or a copy and a removal where the rename is refused.
use Rattle.std.specs.Prelude.{◌≡◌, ◌⊎◌, ◌+◌, ℕ, zero, suc, Bool, List, [], ◌∷◌, ◌++◌}
use Rattle.std.specs.Prelude.{MatchOption, Option, Some, None}
use Rattle.log4rs_rolling.specs.Window.{NoCopies}
use Rattle.log4rs_rolling.specs.Copies.{OnlyRenames}
use Rattle.log4rs_rolling.specs.Disk.{Disk}
use Rattle.log4rs_rolling.specs.Change.{Change, copied, renamed, removed, Files, replay}

-- a move from one path to another changes this: nothing where there is no file
abbrev pub Moved : Files → List ℕ → List ℕ → List Change → Type 0
Moved files from to changes =
    MatchOption (files from) (changes ≡ []) (λ _.
    (changes ≡ renamed from to ∷ []) ⊎ (changes ≡ copied from to ∷ removed from ∷ []))

-- these moves (from, to), one after another, change this
abbrev pub MovedAll : Files → List (List ℕ × List ℕ) → List Change → Type 0
MovedAll files [] changes = changes ≡ []
MovedAll files (move ∷ moves) changes =
    (first : List Change) × (others : List Change)
    × (changes ≡ first ++ others)
    × Moved files move.0 move.1 first
    × MovedAll (replay files first) moves others

-- the first of these moves, if there is one, changes this, and the others are left
abbrev pub MovedFirst : Files → List (List ℕ × List ℕ) → List (List ℕ × List ℕ) → List Change
    → Type 0
MovedFirst files [] left changes = (left ≡ []) × (changes ≡ [])
MovedFirst files (move ∷ moves) left changes =
    (left ≡ moves) × Moved files move.0 move.1 changes

-- the changes are a beginning of those of the moves,
-- which go on without a copy where there was none
abbrev pub MovedPartly : Files → List (List ℕ × List ℕ) → List Change → Type 0
MovedPartly files moves changes =
    (others : List Change)
    × MovedAll files moves (changes ++ others)
    × (NoCopies changes → NoCopies others)

-- these are the last of all these moves
abbrev pub AreLast : List (List ℕ × List ℕ) → List (List ℕ × List ℕ) → Type 0
AreLast all last = (first : List (List ℕ × List ℕ)) × (all ≡ first ++ last)

-- these moves, where there is a file
abbrev pub if_there : Option (List ℕ) → List (List ℕ × List ℕ) → List (List ℕ × List ℕ)
if_there None moves = []
if_there (Some bytes) moves = moves

-- the moves that were left are made, and then a rotation of this file is begun: all its moves are
-- left, or none if there is no file
abbrev pub Begins : Files → List (List ℕ × List ℕ) → List ℕ → List (List ℕ × List ℕ)
    → List (List ℕ × List ℕ) → List Change → Type 0
Begins files rest path moves left changes =
    (first : List Change) × (others : List Change)
    × (changes ≡ first ++ others)
    × MovedAll files rest first
    × (left ≡ if_there (replay files first path) moves)

-- each name takes what the next, newer one has, the oldest name first
abbrev pub each_to_the_older : List (List ℕ) → List (List ℕ × List ℕ)
each_to_the_older [] = []
each_to_the_older (older ∷ []) = []
each_to_the_older (older ∷ newer ∷ others) = (newer, older) ∷ each_to_the_older (newer ∷ others)

-- a beginning of a move
abbrev pub MovedHalf : Files → List ℕ → List ℕ → List Change → Type 0
MovedHalf files from to changes =
    (others : List Change)
    × Moved files from to (changes ++ others)
    × (NoCopies changes → NoCopies others)

-- the names of so many archives, the oldest (of the highest index) first
abbrev pub archive_names : (ℕ → List ℕ) → ℕ → ℕ → List (List ℕ)
archive_names name base zero = []
archive_names name base (suc n) = name (base + n) ∷ archive_names name base n

-- where only renames are allowed, or nothing was refused, there are no copies
abbrev pub Renames : Bool → Disk → Disk → List Change → Type 0
Renames rename_only old new changes = OnlyRenames rename_only old new → NoCopies changes
