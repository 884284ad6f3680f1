-- A store that stops, as contracts see it.
use Rattle.std.specs.Prelude.{◌≡◌, ◌≤◌, ◌<◌, IsTrue, ℕ, zero, suc, List, ◌∷◌, length}
use Rattle.std.specs.Prelude.{Option, Some, None, String, string_bytes}
use Rattle.log4rs_rolling.specs.Disk.{Disk, Origin, Told, one_more}
use Rattle.log4rs_rolling.specs.Change.{Change}

-- a path, if there is one
abbrev pub path_in : {A : Type 0} → Option (String A) → Option (List ℕ)
path_in None = None
path_in (Some path) = Some (string_bytes path)

-- how a run begins: the refusals and the operations that were counted before it, the changes that
-- were made, and how many operations are let through
pub record Start : Type 0 where
  pub refusals : ℕ
  pub operations : ℕ
  pub changes : ℕ
  pub limit : ℕ

-- a run of a store of which so many operations are let through
abbrev pub start_of : ℕ → Disk → Start
start_of limit disk =
    record {
      refusals = disk.refusals;
      operations = disk.operations;
      changes = length disk.changes;
      limit = limit;
    }

-- what a store is known by in a run: how that begins, before what it was known by
abbrev pub in_run : Start → Origin → Origin
in_run start origin =
    record {
      files = origin.files;
      mark = start.refusals ∷ start.operations ∷ start.changes ∷ start.limit ∷ origin.mark;
    }

-- a count after so many more
abbrev pub counted : ℕ → ℕ → ℕ
counted before zero = before
counted before (suc more) = one_more (counted before more)

-- what a store tells in a run whose stop refused so many operations, and denied so many of them:
-- they are counted as its own
abbrev pub marked : Start → ℕ → ℕ → Disk → Disk
marked start more denied disk =
    record {
      tells = disk.tells;
      start = in_run start disk.start;
      changes = disk.changes;
      refusals = counted disk.refusals more;
      denials = counted disk.denials denied;
      operations = counted disk.operations more;
      opened = disk.opened;
    }

-- the same store, later: P holds of what was added
pub record Changed (old new : Disk) (P : List Change → Type 0) : Type 0 where
  pub tells : new.tells ≡ old.tells
  pub told : IsTrue old.tells → (added : List Change) × Told old new added × P added

-- no more changes than operations are let through
abbrev pub StopsAt : Option ℕ → List Change → Type 0
StopsAt None added = Unit {0}
StopsAt (Some limit) added = length added ≤ limit

-- with a stop, so many operations were let through: no fewer than changes
abbrev pub LetsThrough : Option ℕ → ℕ → List Change → Type 0
LetsThrough None passed added = Unit {0}
LetsThrough (Some limit) passed added = length added ≤ passed

-- a stop lets no more operations through than it allows, and refuses none before so many;
-- without a stop nothing is counted
abbrev pub Counts : Option ℕ → ℕ → ℕ → Type 0
Counts None passed stopped = (passed ≡ 0) × (stopped ≡ 0)
Counts (Some limit) passed stopped = (passed ≤ limit) × (0 < stopped → passed ≡ limit)

-- with a stop, so many operations were made, as the store counts them
abbrev pub Operated : Option ℕ → ℕ → Disk → Disk → Type 0
Operated None passed old new = Unit {0}
Operated (Some limit) passed old new =
    IsTrue old.tells → new.operations ≡ counted old.operations passed
