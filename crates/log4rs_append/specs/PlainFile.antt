-- A file that is never rolled, behind an appender in contracts.
use Rattle.std.specs.Prelude.{◌≡◌, ℕ, List, Some, IsTrue, ◌∷◌, [], Option, None, IsSome, Result}
use Rattle.std.specs.Prelude.{OnErr, OnOk}
use Rattle.log4rs_rolling.specs.Disk.{Disk, Calls, Does, Refuses, SameOpen, open_path}
use Rattle.log4rs_base.specs.declared.record.Record.{Record}
use Rattle.log4rs_base.specs.declared.record.Context.{Context}
use Rattle.log4rs_base.specs.declared.error.LogError.{LogError}
use Rattle.log4rs_rolling.specs.Appends.{CostsText, Reading}
use Rattle.log4rs_rolling.specs.Change.{opened}
use Rattle.log4rs_rolling.specs.Costs.{Costs}
use Rattle.log4rs_rolling.specs.RetiredAppends.{AddsRetired}
use Rattle.log4rs_rolling.specs.FileChanges.{OnlyWrites}
use Rattle.log4rs_rolling.specs.declared.store.Open.TheVariants.{Append}

-- a file that the store has open is that of this path
abbrev pub OpensOnly : List ℕ → Disk → Type 0
OpensOnly path disk = IsTrue disk.tells → (at : List ℕ) → disk.opened ≡ Some at → at ≡ path

-- no file is open, as far as the store tells
abbrev pub IsShut : Disk → Type 0
IsShut disk = IsTrue disk.tells → disk.opened ≡ None

-- the visible state of such a file
pub record PlainFile : Type 0 where
  pub path : List ℕ
  -- the text of each record, if it is visible
  pub reading : Option Reading
  pub disk : Disk

-- a record was written to it, if it was open, and nothing else was done; what was open stays open
pub record WrittenFile (r : Record) (c : Context) (result : Result Unit LogError)
    (before after : PlainFile) : Type 0 where
  pub path : after.path ≡ before.path
  pub reading : after.reading ≡ before.reading
  pub writes : Calls before.disk after.disk (OnlyWrites (open_path before.disk))
  pub opened : SameOpen before.disk after.disk
  pub cost : IsSome before.disk.opened
      → CostsText before.reading r c 0 result before.disk after.disk

-- it was closed, and nothing else was done
pub record ShutFile (before after : PlainFile) : Type 0 where
  pub path : after.path ≡ before.path
  pub reading : after.reading ≡ before.reading
  pub closed : Does before.disk after.disk [] before.disk.refusals None

-- with Ok, it was opened in append mode, and nothing else was done; a refusal leaves it closed
pub record ReopenedFile (result : Result Unit LogError) (before after : PlainFile) : Type 0 where
  pub path : after.path ≡ before.path
  pub reading : after.reading ≡ before.reading
  pub opens : OnOk result (Does before.disk after.disk (opened before.path Append ∷ [])
      before.disk.refusals (Some before.path))
  pub refused : OnErr result (Refuses before.disk after.disk None)
  pub cost : Costs 1 result before.disk after.disk

-- a record was appended to a closed file, which was opened for it and closed behind it
pub record LateWrite (r : Record) (c : Context) (result : Result Unit LogError)
    (before after : PlainFile) : Type 0 where
  pub path : after.path ≡ before.path
  pub reading : after.reading ≡ before.reading
  pub adds : Calls before.disk after.disk (AddsRetired before.reading r c before.path result)
  pub closed : IsShut before.disk → IsShut after.disk
  pub cost : CostsText before.reading r c 1 result before.disk after.disk

-- such a file stays one, and this holds of it before and after; none comes
abbrev pub OnPlainFile : (PlainFile → PlainFile → Type 0)
    → Option PlainFile → Option PlainFile → Type 0
OnPlainFile holds None None = Unit {0}
OnPlainFile holds None (Some after) = ⊥
OnPlainFile holds (Some before) None = ⊥
OnPlainFile holds (Some before) (Some after) = holds before after
