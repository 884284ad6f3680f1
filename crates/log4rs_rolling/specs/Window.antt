-- The files that rolling keeps, from the oldest to the newest.
use Rattle.std.specs.Prelude.{◌≡◌, ◌≢◌, ◌⊎◌, ◌<◌, ℕ, zero, suc, List, [], ◌∷◌, ◌++◌, drop, length}
use Rattle.std.specs.Prelude.{Option, None, ◌-◌, Bool, true, false, Some}
use Rattle.std.specs.Option.{option_to_list}
use Rattle.std.specs.List.{concat}
use Rattle.log4rs_rolling.specs.Change.{Change, copied, opened, wrote, renamed, removed, Files}
use Rattle.log4rs_rolling.specs.Change.{after, replay, written_by, written}

pub record Window : Type 0 where
  -- the names of the archives, from the oldest (the highest index) to the newest
  pub archives : List (List ℕ)
  -- the name under which a rolled file waits, where rotation goes on in the background
  pub waiting : Option (List ℕ)
  -- the file that is appended to
  pub active : List ℕ

-- the window of these archives round an active file
abbrev pub around : List (List ℕ) → Option (List ℕ) → List ℕ → Window
around older waits file = record { archives = older; waiting = waits; active = file }

-- all names, from the oldest to the newest
abbrev pub names : Window → List (List ℕ)
names window = window.archives ++ option_to_list window.waiting ++ window.active ∷ []

-- the contents of the present files of these names
abbrev pub contents : Files → List (List ℕ) → List (List ℕ)
contents files [] = []
contents files (name ∷ others) = option_to_list (files name) ++ contents files others

-- the kept text: what the present files hold, one after another
abbrev pub kept : Window → Files → List ℕ
kept window files = concat (contents files (names window))

-- the kept text grows at its end by exactly what the change wrote
abbrev pub Keeps : Window → Files → Change → Type 0
Keeps window files change =
    kept window (after files change) ≡ kept window files ++ written_by window.active change

-- the oldest archive goes, all else stays, and nothing is written
pub record Drops (window : Window) (files : Files) (change : Change) : Type 0 where
  pub silent : written_by window.active change ≡ []
  pub archived : 0 < length (contents files window.archives)
  pub others : contents (after files change) (names window) ≡ drop 1 (contents files (names window))

-- each change keeps or drops, judged by the files just before it
abbrev pub Good : Window → Files → List Change → Type 0
Good window files [] = Unit {0}
Good window files (change ∷ changes) =
    (Keeps window files change ⊎ Drops window files change)
    × Good window (after files change) changes

-- each change keeps or drops, and at most so many drop
abbrev pub GoodWithin : ℕ → Window → Files → List Change → Type 0
GoodWithin n window files [] = Unit {0}
GoodWithin zero window files (change ∷ changes) =
    Keeps window files change × GoodWithin zero window (after files change) changes
GoodWithin (suc n) window files (change ∷ changes) =
    (Keeps window files change × GoodWithin (suc n) window (after files change) changes)
    ⊎ (Drops window files change × GoodWithin n window (after files change) changes)

-- no change is a copy
abbrev pub NoCopies : List Change → Type 0
NoCopies [] = Unit {0}
NoCopies (copied from to ∷ changes) = ⊥
NoCopies (opened path how ∷ changes) = NoCopies changes
NoCopies (wrote path bytes ∷ changes) = NoCopies changes
NoCopies (renamed from to ∷ changes) = NoCopies changes
NoCopies (removed path ∷ changes) = NoCopies changes

-- a name that is not among these
abbrev pub NotAmong : List ℕ → List (List ℕ) → Type 0
NotAmong name [] = Unit {0}
NotAmong name (other ∷ others) = (name ≢ other) × NotAmong name others

-- names of pairwise different files
abbrev pub AreDistinct : List (List ℕ) → Type 0
AreDistinct [] = Unit {0}
AreDistinct (name ∷ others) = NotAmong name others × AreDistinct others

-- what is kept after the changes is the end of what was kept before,
-- followed by what was written since
abbrev pub KeepsTheEnd : Window → Files → List Change → Type 0
KeepsTheEnd window files changes =
    (gone : List ℕ)
    × (gone ++ kept window (replay files changes)
    ≡ kept window files ++ written window.active changes)

-- where no file is to stand, beside the active one
pub data Vacancy : Type 0 where
  -- nowhere: each name may have its file
  Anywhere : Vacancy
  -- at this name
  VacantAt : List ℕ → Vacancy
  -- what rolls the files has begun with another active file
  OfAnother : Vacancy

-- no rolling of another active file was begun
abbrev pub IsOurs : Vacancy → Type 0
IsOurs Anywhere = Unit {0}
IsOurs (VacantAt name) = Unit {0}
IsOurs OfAnother = ⊥

-- no file stands there (of the active file nothing is said)
abbrev pub Vacant : Vacancy → List ℕ → Files → Type 0
Vacant Anywhere active files = Unit {0}
Vacant (VacantAt name) active files = name ≢ active → files name ≡ None
Vacant OfAnother active files = ⊥

-- what a call of a roller added:
-- nothing is written to the file, and at most so many archives are dropped
abbrev pub RolledWithin : ℕ → Window → Files → List Change → Type 0
RolledWithin n window files added =
    (written window.active added ≡ []) × (NoCopies added → GoodWithin n window files added)

-- the same, and afterwards no file stands where none is to stand
abbrev pub Rolled : ℕ → Vacancy → Window → Files → List Change → Type 0
Rolled n vacancy window files added =
    RolledWithin n window files added × Vacant vacancy window.active (replay files added)

-- moves into a vacant name drop none, and others at most one
abbrev pub drops_into : Vacancy → ℕ
drops_into Anywhere = 1
drops_into (VacantAt name) = 0
drops_into OfAnother = 1

-- what is dropped between these: one archive, where from then on none is to be dropped
abbrev pub drops_between : Vacancy → Vacancy → ℕ
drops_between before now = drops_into before - drops_into now

-- after a firing what the roller drops, and else none
abbrev pub drops_after : Option Bool → Vacancy → ℕ
drops_after (Some true) vacant = drops_into vacant
drops_after (Some false) vacant = 0
drops_after None vacant = 0

-- where a name has no file, the next older one has none
abbrev pub NoGaps : Files → List (List ℕ) → Type 0
NoGaps files [] = Unit {0}
NoGaps files (only ∷ []) = Unit {0}
NoGaps files (older ∷ newer ∷ others) =
    (files newer ≡ None → files older ≡ None) × NoGaps files (newer ∷ others)

-- each name has what the next newer one had, and the newest has nothing
abbrev pub Shifted : Files → Files → List (List ℕ) → Type 0
Shifted old new [] = Unit {0}
Shifted old new (newest ∷ []) = new newest ≡ None
Shifted old new (older ∷ newer ∷ others) =
    (new older ≡ old newer) × Shifted old new (newer ∷ others)
