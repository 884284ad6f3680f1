-- A store as contracts see it, and what an operation does to it.
use Rattle.std.specs.Prelude.{◌≡◌, ℕ, ◌+◌, ◌-◌, ◌^◌, ◌<◌, ◌≤◌, nat_lt, IsSome, List, [], ◌∷◌, ◌++◌}
use Rattle.std.specs.Prelude.{take, length, Bool, IsTrue, Option, Some, None, unwrap_or}
use Rattle.std.specs.Prelude.{if◌then◌else◌, Result, Ok, Err, option_map, true, ⊤}
use Rattle.std.specs.Str.{bytes_eq}
use Rattle.log4rs_rolling.specs.Change.{Change, wrote, Files, replay, bytes_at}
use Rattle.log4rs_rolling.specs.declared.store.StoreError.{StoreError}
use Rattle.log4rs_rolling.specs.declared.store.StoreError.TheVariants.{Refused, Absent, NotOpen}

-- what a store started with, which no operation changes: its files, and by what it is known
pub record Origin : Type 0 where
  pub files : Files
  pub mark : List ℕ

-- the state of a store in contracts
pub record Disk : Type 0 where
  -- whether the store tells its files
  pub tells : Bool
  pub start : Origin
  -- what its operations changed, in order
  pub changes : List Change
  -- how many operations were refused
  pub refusals : ℕ
  -- how many of them the store denied, with `Refused`: those of no other error
  pub denials : ℕ
  -- how many operations there were that may be refused: all but `close` and `is_open`
  pub operations : ℕ
  -- the path of the open file
  pub opened : Option (List ℕ)

-- the files after the first k changes
abbrev pub files_at : Disk → ℕ → Files
files_at disk k = replay disk.start.files (take k disk.changes)

-- the files now
abbrev pub files_of : Disk → Files
files_of disk = replay disk.start.files disk.changes

-- a count with one more: at its greatest value it stays
abbrev pub one_more : ℕ → ℕ
one_more n = if nat_lt n (2 ^ 64 - 1) then n + 1 else n

-- something was refused in between (always, once the count is at its greatest value)
abbrev pub Grew : ℕ → ℕ → Type 0
Grew before now = one_more before ≤ now

-- these changes were added
pub record Told (old new : Disk) (added : List Change) : Type 0 where
  pub start : new.start ≡ old.start
  pub changes : new.changes ≡ old.changes ++ added

-- one operation: what it added, the refusals after it, and the open file
pub record Does
    (old new : Disk) (added : List Change) (count : ℕ) (path : Option (List ℕ)) : Type 0 where
  pub tells : new.tells ≡ old.tells
  pub refusals : new.refusals ≡ count
  -- what is known of a store that tells its files
  pub told : IsTrue old.tells → Told old new added
  pub opened : IsTrue old.tells → new.opened ≡ path

-- a refusal: one more in the count, and nothing else
abbrev pub Refuses : Disk → Disk → Option (List ℕ) → Type 0
Refuses old new path = Does old new [] (one_more old.refusals) path

-- the count of denials after an operation with this error: one more after `Refused`
abbrev pub denials_by : StoreError → ℕ → ℕ
denials_by Refused n = one_more n
denials_by Absent n = n
denials_by NotOpen n = n

-- and after one with this result
abbrev pub denials_after : {T : Type 0} → Result T StoreError → ℕ → ℕ
denials_after (Ok value) n = n
denials_after (Err error) n = denials_by error n

-- a store that tells its files counted one more operation, and a denial if it was one
pub record Counted {T : Type 0} (result : Result T StoreError) (old new : Disk) : Type 0 where
  pub tells : new.tells ≡ old.tells
  pub operations : IsTrue old.tells → new.operations ≡ one_more old.operations
  pub denials : IsTrue old.tells → new.denials ≡ denials_after result old.denials

-- and here it counted neither
pub record Uncounted (old new : Disk) : Type 0 where
  pub operations : IsTrue old.tells → new.operations ≡ old.operations
  pub denials : IsTrue old.tells → new.denials ≡ old.denials

-- the open file after an operation on a path, which closes it where it is the open one
abbrev pub closed_at : List ℕ → Option (List ℕ) → Option (List ℕ)
closed_at path None = None
closed_at path (Some at) = if bytes_eq at path then None else Some at

-- the path of the open file
abbrev pub open_path : Disk → List ℕ
open_path disk = unwrap_or disk.opened []

-- a write that took the first n bytes: some, if there are any
pub record Writes (old new : Disk) (bytes : List ℕ) (n : ℕ) : Type 0 where
  pub bound : n ≤ length bytes
  pub progress : 0 < length bytes → 0 < n
  pub is_open : IsTrue old.tells → IsSome old.opened
  pub does : Does old new (wrote (open_path old) (take n bytes) ∷ []) old.refusals old.opened

-- the length of the open file was told
pub record Measures (old new : Disk) (n : ℕ) : Type 0 where
  pub value : IsTrue old.tells → n ≡ length (bytes_at (files_of old) (open_path old))
  pub is_open : IsTrue old.tells → IsSome old.opened
  pub does : Does old new [] old.refusals old.opened

-- a call of several operations: P holds of what they added
pub record Calls (old new : Disk) (P : List Change → Type 0) : Type 0 where
  pub tells : new.tells ≡ old.tells
  pub refusals : old.refusals ≤ new.refusals
  pub told : IsTrue old.tells → (added : List Change) × Told old new added × P added

-- the open file of a store that tells its files is the same one
abbrev pub SameOpen : Disk → Disk → Type 0
SameOpen old new = IsTrue old.tells → new.opened ≡ old.opened

-- a store that tells its files and has these: nothing is changed, refused or open
abbrev pub begun : Files → Disk
begun files =
    record {
      tells = true;
      start = record { files = files; mark = [] };
      changes = [];
      refusals = 0;
      denials = 0;
      operations = 0;
      opened = None;
    }

-- it begins with these files, where they are told
abbrev pub Begins : Option Files → Disk → Type 0
Begins None disk = ⊤
Begins (Some files) disk = disk ≡ begun files

-- a store that was made is counted, where stores are counted, and nothing else is
abbrev pub CountsMade : {A E : Type 0} → Result A E → Option ℕ → Option ℕ → Type 0
CountsMade (Ok _) before after = after ≡ option_map (λ n. n + 1) before
CountsMade (Err _) before after = after ≡ before
