-- One append to a rolled file: with the one decision of its trigger, and whatever that is.
use Rattle.std.specs.Prelude.{◌≡◌, ◌≤◌, ◌+◌, ℕ, List, Bool, Option, IsTrue, Result, OnOk, length}
use Rattle.std.specs.Prelude.{Err, IsSome, IfSome, IfErr}
use Rattle.log4rs_rolling.specs.Disk.{Disk, Calls}
use Rattle.log4rs_base.specs.declared.record.Context.{Context}
use Rattle.log4rs_base.specs.declared.record.Record.{Record}
use Rattle.log4rs_base.specs.declared.error.LogError.{LogError}
use Rattle.log4rs_rolling.specs.Appends.{Reading, AppendedTo, AnsweredBehind, Adds, AddsNoneOrAll}
use Rattle.log4rs_rolling.specs.Appends.{Failing, FailsBy, Segmented}
use Rattle.log4rs_rolling.specs.Asking.{Asking, UnlessYes, opened_again, is_told}
use Rattle.log4rs_rolling.specs.Keeping.{Keeping, TellsAfter, SameNames, StaysAmong, rotation_cost}
use Rattle.log4rs_rolling.specs.FileChanges.{OnlyAppends, once_if_closed, openings, way}
use Rattle.log4rs_rolling.specs.AppendParts.{Whole, AroundMoves}
use Rattle.log4rs_rolling.specs.Faults.{MayAnswer}
use Rattle.log4rs_base.specs.declared.error.LogError.TheVariants.{Memory}
use Rattle.log4rs_rolling.specs.declared.store.Open.{Open}
use Rattle.log4rs_rolling.specs.Copies.{CopiesNeedRefusal}
use Rattle.log4rs_rolling.specs.Costs.{Caused, Makes}
use Rattle.log4rs_rolling.specs.SegmentGrowth.{GrowsBy}
use Rattle.log4rs_rolling.specs.Window.{NoCopies}

-- an append of a record, by the decision of its trigger, if that was called
pub record AnsweredAppend
    (reading : Option Reading) (r : Record) (c : Context) (asking : Asking) (answer : Option Bool)
    (before now : Keeping) (append : Bool) (path : List ℕ)
    (result : Result Unit LogError) (old new : Disk) : Type 0 where
  -- in append mode: what becomes of the window, and which decision it was
  pub kept : IsTrue append → AppendedTo asking c answer before now path old new
  -- all changes, if the result is Ok
  pub whole : Whole reading r c asking before (way append) path result answer old new
  -- unless the trigger fires, the file is opened in its mode, and written to
  pub quiet : UnlessYes answer (Calls old new (OnlyAppends path (way append)))
  -- an open file is not opened, and so not emptied, and a closed one is opened once; after the
  -- firing of a trigger that is called first it is opened again
  pub opens : TellsAfter before path answer
      → Calls old new
      (λ added. openings added ≤ once_if_closed old.opened + opened_again asking.kind answer)
  -- a trigger that is called afterwards is called behind the whole text
  pub behind : AnsweredBehind reading r c asking before path answer old new
  -- if the result is Ok and the trigger did not fire, nothing was refused
  pub unrefused : UnlessYes answer (OnOk result (new.refusals ≡ old.refusals))

-- what is changed at most
pub record LimitedAppend
    (before now : Keeping) (path : List ℕ) (how : Open) (old new : Disk) : Type 0 where
  -- nothing but the file, and what the moves of one rotation change
  pub moves : AroundMoves before path how old new
  -- nothing is copied, where the roller only renames
  pub renames : IsTrue before.renames → Calls old new NoCopies
  pub elsewhere : StaysAmong before now path old new
  pub names : SameNames before now
  pub store : Calls old new (λ added. Unit {0})

-- how many operations an append of this text needs at most: those of a rotation, four to open the
-- file twice, and one for each byte
abbrev pub append_cost : Keeping → List ℕ → ℕ
append_cost keeping text = rotation_cost keeping + 4 + length text

-- what is written, and the possible errors, if the policy is built in
pub record MadeAppend
    (reading : Option Reading) (fails : Failing) (r : Record) (c : Context) (asking : Asking)
    (before : Keeping) (path : List ℕ)
    (result : Result Unit LogError) (old new : Disk) : Type 0 where
  pub adds : Calls old new (Adds reading r c path result)
  pub memory : result ≡ Err Memory → Calls old new (AddsNoneOrAll reading r c path)
  -- a file is copied only where something was refused
  pub copies : CopiesNeedRefusal old new
  pub unrefused : IsTrue before.renames → OnOk result (new.refusals ≡ old.refusals)
  -- with a visible trigger
  pub fault : IsTrue (is_told asking.kind) → IsSome reading
      → IfErr result (MayAnswer old.refusals new.refusals)
  pub faults : IsTrue (is_told asking.kind) → IfErr result (FailsBy fails r c path old new)
  pub cost : IfSome reading (λ read. Makes (append_cost before (read r c)) old new)
  pub cause : IsTrue (is_told asking.kind) → IsSome reading → Caused result old new

-- which segments the files show then, in append mode, at once or in the background
pub record GrownAppend
    (reading : Option Reading) (r : Record) (c : Context) (asking : Asking)
    (before now : Keeping) (path : List ℕ)
    (result : Result Unit LogError) (old new : Disk) : Type 0 where
  pub segments : Segmented reading r c asking before path result old new
  pub shown : GrowsBy reading r c asking before now path result old new
