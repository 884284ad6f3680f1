-- Where kept archives end, in the stream of all that was kept at a start and written since.
use Rattle.std.specs.Prelude.{◌≡◌, ◌+◌, ◌⊎◌, ℕ, suc, Bool, true, List, [], ◌∷◌, ◌++◌, length}
use Rattle.std.specs.Prelude.{Option, Some}
use Rattle.std.specs.Option.{option_to_list}
use Rattle.log4rs_rolling.specs.Change.{Change, Files, after, written_by, bytes_at}
use Rattle.log4rs_rolling.specs.Window.{Window, contents, NoCopies}

-- the bytes of these files and of the active one
abbrev pub total : List (List ℕ) → ℕ → ℕ
total [] active = active
total (content ∷ others) active = length content + total others active

-- how far before the end of the stream the first kept byte stands,
-- and each archive ends, the oldest first
abbrev pub ends_of : List (List ℕ) → ℕ → List ℕ
ends_of [] active = active ∷ []
ends_of (content ∷ others) active = (length content + total others active) ∷ ends_of others active

-- the names of all kept files but the active one
abbrev pub older_of : Window → List (List ℕ)
older_of window = window.archives ++ option_to_list window.waiting

abbrev pub ends : Window → Files → List ℕ
ends window files =
    ends_of (contents files (older_of window)) (length (bytes_at files window.active))

-- in a stream of this length, the place so far before its end is one of these
abbrev pub IsAt : List ℕ → ℕ → ℕ → Type 0
IsAt [] at distance = ⊥
IsAt (place ∷ places) at distance = (place + distance ≡ at) ⊎ IsAt places at distance

abbrev pub AreAt : List ℕ → ℕ → List ℕ → Type 0
AreAt places at [] = Unit {0}
AreAt places at (distance ∷ others) = IsAt places at distance × AreAt places at others

-- the length of a stream, with these bytes more
abbrev pub longer : List ℕ → ℕ → ℕ
longer [] at = at
longer (byte ∷ bytes) at = suc (longer bytes at)

-- at every moment, the first kept byte and the end of each archive stand at these places
abbrev pub EndsAt : List ℕ → Window → Files → ℕ → List Change → Type 0
EndsAt places window files at [] = AreAt places at (ends window files)
EndsAt places window files at (change ∷ changes) =
    AreAt places at (ends window files)
    × EndsAt places window (after files change)
    (longer (written_by window.active change) at) changes

-- if no file was copied: the places of kept ends stay the same, and a firing, which came behind
-- these bytes, adds the end of the stream at that moment
abbrev pub EndsUnder : Option Bool → List ℕ → Window → Files → List Change → Type 0
EndsUnder answer asked window files added =
    NoCopies added
    → (places : List ℕ) (at : ℕ) → AreAt places at (ends window files)
    → (answer ≡ Some true → IsAt places (longer asked at) 0)
    → EndsAt places window files at added
