-- Segments: what the files of a window hold, where a size trigger decides when a file is closed.
use Rattle.std.specs.Prelude.{◌≡◌, ◌<◌, ℕ, zero, suc, List, [], ◌∷◌, ◌++◌, length, map, reverse}
use Rattle.std.specs.Prelude.{Option, Some, None, nat_lt, if◌then◌else◌}
use Rattle.log4rs_rolling.specs.Change.{Files, bytes_at}
use Rattle.log4rs_rolling.specs.Window.{contents}

pub record Segments : Type 0 where
  -- the newest first
  pub closed : List (List ℕ)
  pub current : List ℕ

-- a segment that is longer than the limit is closed, and a new one begins
abbrev pub close_past : ℕ → Segments → Segments
close_past limit segments =
    if nat_lt limit (length segments.current)
    then record { closed = segments.current ∷ segments.closed; current = [] }
    else segments

-- a record's text goes to the open segment
abbrev pub add : ℕ → Segments → List ℕ → Segments
add limit segments text =
    close_past limit (record { closed = segments.closed; current = segments.current ++ text })

-- the texts of several records, the first of them first
abbrev pub add_all : ℕ → Segments → List (List ℕ) → Segments
add_all limit segments [] = segments
add_all limit segments (text ∷ texts) = add_all limit (add limit segments text) texts

-- the item at a place of a list
abbrev pub nth : {A : Type 0} → ℕ → List A → Option A
nth n [] = None
nth zero (x ∷ xs) = Some x
nth (suc n) (x ∷ xs) = nth n xs

-- the archives, the oldest first, hold the newest closed segments:
-- the last one the newest, and one without a segment is absent
abbrev pub Holds : Files → List (List ℕ) → List (List ℕ) → Type 0
Holds files [] closed = Unit {0}
Holds files (name ∷ newer) closed =
    (files name ≡ nth (length newer) closed) × Holds files newer closed

-- the archives hold the closed segments, and the active file the open one,
-- which is empty where there is no file
pub record Shows
    (segments : Segments) (archives : List (List ℕ))
    (active : List ℕ) (files : Files) : Type 0 where
  pub closed : Holds files archives segments.closed
  pub current : bytes_at files active ≡ segments.current

-- the segments after a record: where it closed one, there is no active file
pub record ShowsAfter
    (limit : ℕ) (segments : Segments) (text : List ℕ)
    (archives : List (List ℕ)) (active : List ℕ) (files : Files) : Type 0 where
  pub shows : Shows (add limit segments text) archives active files
  pub absent : limit < length (segments.current ++ text) → files active ≡ None

-- the segments of a start: each archive is closed, and the active file holds the open one
abbrev pub begun : List (List ℕ) → List ℕ → Files → Segments
begun archives active files =
    record { closed = reverse (contents files archives); current = bytes_at files active }

-- a run of appends, by the text of each and the files after it: the segments grow by the text
abbrev pub Grows : ℕ → List (List ℕ) → List ℕ → Files → List (List ℕ × Files) → Type 0
Grows limit archives active files [] = Unit {0}
Grows limit archives active files (step ∷ steps) =
    ((segments : Segments) → Shows segments archives active files
    → ShowsAfter limit segments step.0 archives active step.1)
    × Grows limit archives active step.1 steps

-- the texts of a run, and the files after it
abbrev pub texts_of : List (List ℕ × Files) → List (List ℕ)
texts_of steps = map (λ step. step.0) steps

abbrev pub files_behind : Files → List (List ℕ × Files) → Files
files_behind files [] = files
files_behind files (step ∷ steps) = files_behind step.1 steps
