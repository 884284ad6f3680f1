-- Single operations on files, with their results.
use Rattle.std.specs.Prelude.{◌≡◌, ◌≤◌, ◌∷◌, ℕ, List, [], Bool, None, Some, IsTrue, Result, IfErr, IfOk, OnErr, OnOk}
use Rattle.log4rs_rolling.specs.Change.{Change, Files, opened}
use Rattle.log4rs_rolling.specs.Disk.{Disk, Calls, Does, files_of}
use Rattle.log4rs_rolling.specs.Costs.{Costs}
use Rattle.log4rs_rolling.specs.Faults.{MayAnswer}
use Rattle.log4rs_base.specs.declared.error.LogError.{LogError}
use Rattle.log4rs_base.specs.declared.error.LogError.TheVariants.{Store}
use Rattle.log4rs_rolling.specs.declared.store.Open.{Open}
use Rattle.log4rs_rolling.specs.Keeping.{LeavesOpen, StaysClosed}
use Rattle.log4rs_rolling.specs.LogFile.{IsOpenAt}
use Rattle.log4rs_rolling.specs.Moves.{Moved, Renames}
use Rattle.log4rs_rolling.specs.FileChanges.{OnlyOpens, openings}
use Rattle.log4rs_rolling.specs.Window.{NoCopies}

-- with Ok nothing was refused, and an error comes from a refusal or a failed allocation
pub record Refusing
    {T : Type 0} (result : Result T LogError) (old new : Disk) : Type 0 where
  pub unrefused : OnOk result (new.refusals ≡ old.refusals)
  pub fault : IfErr result (MayAnswer old.refusals new.refusals)

-- moves by renames or by copies: all of them, or a part
pub record MovedBy
    (All Part : Files → List Change → Type 0) (rename_only : Bool)
    (result : Result Unit LogError) (old new : Disk) : Type 0 where
  pub ok : OnOk result (Calls old new (λ added.
      All (files_of old) added × Renames rename_only old new added))
  pub err : OnErr result (Calls old new (λ added.
      Part (files_of old) added × Renames rename_only old new added))
  pub unrefused : IsTrue rename_only → OnOk result (new.refusals ≡ old.refusals)
  pub closed : StaysClosed old new
  pub fault : IfErr result (MayAnswer old.refusals new.refusals)

-- a move by one rename, or nothing
pub record RenamedBy
    (from to : List ℕ) (result : Result Unit LogError) (old new : Disk) : Type 0 where
  pub ok : OnOk result (Calls old new (λ added.
      Moved (files_of old) from to added × NoCopies added))
  pub err : OnErr result (Calls old new (λ added. added ≡ []))
  pub unrefused : OnOk result (new.refusals ≡ old.refusals)
  pub left : LeavesOpen old new
  pub fault : IfErr result (MayAnswer old.refusals new.refusals)

-- one opening, which returns the length
pub record OpenedBy
    (path : List ℕ) (how : Open) (result : Result ℕ LogError) (old new : Disk) : Type 0 where
  pub once : OnOk result (Does old new (opened path how ∷ []) old.refusals (Some path))
  pub opened : Calls old new (OnlyOpens path how)
  pub at_most : Calls old new (λ added. openings added ≤ 1)
  pub ok : IfOk result (λ n. IsOpenAt path n old new)
  pub err : OnErr result (IsTrue old.tells → new.opened ≡ None)
  pub cost : Costs 2 result old new
  pub only : IfErr result (λ fault. fault ≡ Store)
  pub fault : IfErr result (MayAnswer old.refusals new.refusals)
