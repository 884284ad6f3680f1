-- A rolled file behind an appender in contracts, and the effect of an append on it.
use Rattle.std.specs.Prelude.{◌≡◌, ℕ, List, Bool, Option, Some, None, IfSome, IsTrue, OnErr, OnOk}
use Rattle.std.specs.Prelude.{Result}
use Rattle.log4rs_rolling.specs.Disk.{Disk, Calls, files_of}
use Rattle.log4rs_base.specs.declared.record.Record.{Record}
use Rattle.log4rs_base.specs.declared.record.Context.{Context}
use Rattle.log4rs_base.specs.declared.error.LogError.{LogError}
use Rattle.log4rs_rolling.specs.AppendResults.{AnsweredAppend}
use Rattle.log4rs_rolling.specs.Appends.{CostsText, Reading}
use Rattle.log4rs_rolling.specs.Asking.{Asking, Kind}
use Rattle.log4rs_rolling.specs.AppendResults.{GrownAppend, LimitedAppend, MadeAppend}
use Rattle.log4rs_rolling.specs.Keeping.{Keeping, SameNames, Stands}
use Rattle.log4rs_rolling.specs.FileChanges.{OnlyOpens, way}
use Rattle.log4rs_rolling.specs.Costs.{Costs}
use Rattle.log4rs_rolling.specs.RetiredAppends.{AddsRetired}
use Rattle.log4rs_rolling.specs.SinceOpening.{CopiesNothing, GoodSince}
use Rattle.log4rs_rolling.specs.Window.{KeepsTheEnd, around}
use Rattle.log4rs_rolling.specs.Background.{Driven, Stepped}
use Rattle.log4rs_rolling.specs.declared.store.Open.TheVariants.{Append}
use Rattle.log4rs_append.specs.PlainFile.{IsShut}

-- the visible state of a rolled file
pub record RolledFile : Type 0 where
  -- its path, and whether an opening keeps what it holds
  pub path : List ℕ
  pub append : Bool
  -- the text of each record, if it is visible
  pub reading : Option Reading
  -- when its trigger is called
  pub kind : Kind
  -- what is kept, as it was at the opening and as it is now
  pub settings : Keeping
  pub keeping : Keeping
  -- the store, as it was at the opening and as it is now
  pub opening : Disk
  pub disk : Disk
  -- each change since the opening is good
  pub good : ∥ GoodSince settings keeping path append opening disk ∥₁

-- in append mode, in a window that stood at the opening, and if nothing was copied since: the
-- archives and the file hold a suffix of what they held at the opening and all that was written
-- since
abbrev pub KeepsItsEnd : RolledFile → Type 0
KeepsItsEnd file =
    IfSome file.settings.archives (λ older.
    let window = around older (file.settings.waiting file.path) file.path in
    IsTrue file.append
    → Stands window (file.settings.vacant file.path) file.opening
    → CopiesNothing file.settings file.opening file.disk
    → Calls file.opening file.disk (KeepsTheEnd window (files_of file.opening)))

-- a trigger that is called then; the decisions of one that is called first are hidden
abbrev pub asked_by : Kind → Asking
asked_by kind = record { kind = kind; answer = λ len c b. Unit {0} }

-- it is the same file, by the same settings, since the same opening, and its store went on
pub record GoesOn (before after : RolledFile) : Type 0 where
  pub path : after.path ≡ before.path
  pub mode : after.append ≡ before.append
  pub reading : after.reading ≡ before.reading
  pub kind : after.kind ≡ before.kind
  pub settings : after.settings ≡ before.settings
  pub opening : after.opening ≡ before.opening
  pub names : SameNames before.keeping after.keeping
  pub store : Calls before.disk after.disk (λ added. Unit {0})

-- one append of a record, by one decision of the trigger, if that was called
pub record RolledAppend
    (r : Record) (c : Context) (outcome : Result Unit LogError)
    (before after : RolledFile) : Type 0 where
  pub goes_on : GoesOn before after
  pub answer : Option Bool
  pub answered : AnsweredAppend before.reading r c (asked_by before.kind) answer before.keeping
      after.keeping before.append before.path outcome before.disk after.disk
  pub limited : LimitedAppend before.keeping after.keeping before.path (way before.append)
      before.disk after.disk
  -- the errors of a caller's encoder are hidden; after one, nothing is written
  pub made : IsTrue before.keeping.is_built_in
      → MadeAppend before.reading (λ r c fault. Unit {0}) r c (asked_by before.kind)
      before.keeping before.path outcome before.disk after.disk
  pub grown : IsTrue before.append
      → GrownAppend before.reading r c (asked_by before.kind) before.keeping after.keeping
      before.path outcome before.disk after.disk

-- one step of the rest of a rotation, beside the records
pub record SteppedFile (result : Result Bool LogError) (before after : RolledFile) : Type 0 where
  pub goes_on : GoesOn before after
  pub stepped : Stepped before.keeping after.keeping result before.disk after.disk

-- all that is left of a rotation, beside the records
pub record DrivenFile (result : Result Unit LogError) (before after : RolledFile) : Type 0 where
  pub goes_on : GoesOn before after
  pub driven : Driven before.keeping after.keeping result before.disk after.disk

-- the same, and then no file is open
pub record RetiredFile (result : Result Unit LogError) (before after : RolledFile) : Type 0 where
  pub driven : DrivenFile result before after
  pub closed : IsShut after.disk

-- a record was appended to a closed file, which was opened for it in append mode and closed behind
-- it; nothing was rolled
pub record LateAppend (r : Record) (c : Context) (result : Result Unit LogError)
    (before after : RolledFile) : Type 0 where
  pub adds : Calls before.disk after.disk (AddsRetired before.reading r c before.path result)
  pub closed : IsShut before.disk → IsShut after.disk
  pub cost : CostsText before.reading r c 1 result before.disk after.disk

-- the file is opened in append mode, and nothing else is done; it is open with Ok, and else closed
pub record ResumedFile (result : Result Unit LogError) (before after : RolledFile) : Type 0 where
  pub goes_on : GoesOn before after
  pub keeping : after.keeping ≡ before.keeping
  pub only : Calls before.disk after.disk (OnlyOpens before.path Append)
  pub is_open : OnOk result (IsTrue after.disk.tells → after.disk.opened ≡ Some before.path)
  pub cost : Costs 2 result before.disk after.disk
  pub closed : OnErr result (IsShut after.disk)

-- a rolled file stays one, and this holds of it before and after; none comes
abbrev pub OnRolledFile : (RolledFile → RolledFile → Type 0)
    → Option RolledFile → Option RolledFile → Type 0
OnRolledFile holds None None = Unit {0}
OnRolledFile holds None (Some after) = ⊥
OnRolledFile holds (Some before) None = ⊥
OnRolledFile holds (Some before) (Some after) = holds before after
