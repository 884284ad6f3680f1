-- The segments that the files of a window show, also during a rotation in the background.
use Rattle.std.specs.Prelude.{◌≡◌, ◌<◌, ℕ, List, [], ◌∷◌, None, length, if◌then◌else◌}
use Rattle.std.specs.Str.{bytes_eq}
use Rattle.log4rs_rolling.specs.Change.{Change, Files, replay}
use Rattle.log4rs_rolling.specs.ArchiveEnds.{older_of}
use Rattle.log4rs_rolling.specs.Segments.{Segments, Shows}
use Rattle.log4rs_rolling.specs.Window.{Window, Vacancy, Anywhere, VacantAt, OfAnother}

-- these names but this one
abbrev pub without : List ℕ → List (List ℕ) → List (List ℕ)
without name [] = []
without name (other ∷ others) =
    if bytes_eq name other then others else other ∷ without name others

-- the names of the archives and of the waiting file, the oldest first,
-- but the one where no file is to stand
abbrev pub standing : Window → Vacancy → List (List ℕ)
standing window Anywhere = older_of window
standing window (VacantAt name) = without name (older_of window)
standing window OfAnother = older_of window

-- the files of these names hold the newest closed segments, the last of them the newest,
-- and the active file the open one
abbrev pub ShowsIn : Segments → Window → Vacancy → Files → Type 0
ShowsIn segments window vacancy files =
    Shows segments (standing window vacancy) window.active files

-- the segments that were shown still are
abbrev pub StaysIn : Vacancy → Vacancy → Window → Files → List Change → Type 0
StaysIn before now window files added =
    (segments : Segments) → ShowsIn segments window before files
    → ShowsIn segments window now (replay files added)

-- the segments, with the open one closed
abbrev pub close : Segments → Segments
close segments = record { closed = segments.current ∷ segments.closed; current = [] }

-- the open segment, where it is not empty, was closed, and there is no active file
abbrev pub ClosesIn : Vacancy → Vacancy → Window → Files → List Change → Type 0
ClosesIn before now window files added =
    (segments : Segments) → ShowsIn segments window before files
    → 0 < length segments.current
    → ShowsIn (close segments) window now (replay files added)
    × (replay files added window.active ≡ None)
