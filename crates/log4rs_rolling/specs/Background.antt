-- The rest of a rotation beside the records: one step of it, or all of it.
use Rattle.std.specs.Prelude.{◌≡◌, ◌≤◌, ◌↔◌, ◌*◌, ◌∷◌, ℕ, List, [], Bool, false, length, IsTrue, Result, Ok}
use Rattle.std.specs.Prelude.{IfOk, IfErr, OnOk, OnErr}
use Rattle.log4rs_rolling.specs.Disk.{Disk, Calls, files_of}
use Rattle.log4rs_rolling.specs.Costs.{Costs}
use Rattle.log4rs_rolling.specs.Faults.{MayAnswer}
use Rattle.log4rs_base.specs.declared.error.LogError.{LogError}
use Rattle.log4rs_rolling.specs.Keeping.{Keeping, NothingLeft, SteppedAs}
use Rattle.log4rs_rolling.specs.Moves.{MovedAll, MovedFirst, MovedPartly}
use Rattle.log4rs_rolling.specs.SegmentGrowth.{ShowsAtLast}

-- how many operations a step needs at most, where these moves are left: none without a move
abbrev pub step_cost : List (List ℕ × List ℕ) → ℕ
step_cost [] = 0
step_cost (move ∷ moves) = 3

-- a step of a built-in roller
pub record MadeStep
    (before now : Keeping) (result : Result Bool LogError) (old new : Disk) : Type 0 where
  -- the first of the moves that are left is made, if there is one
  pub moved :
      OnOk result (Calls old new (λ added. MovedFirst (files_of old) before.rest now.rest added))
  -- the result says whether there are more
  pub more : IfOk result (λ more. IsTrue more ↔ ¬ (now.rest ≡ []))
  -- where it fails, all of them are left
  pub err : OnErr result ((now.rest ≡ before.rest) × Calls old new (λ added. added ≡ []))
  -- where none was left, it does not fail
  pub none : before.rest ≡ [] → result ≡ Ok false
  pub once : Calls old new (λ added. length added ≤ 1)
  pub unrefused : OnOk result (new.refusals ≡ old.refusals)
  pub fault : IfErr result (MayAnswer old.refusals new.refusals)
  pub cost : Costs (step_cost before.rest) result old new

-- a step: of any roller steps, and of a built-in one this
pub record Stepped
    (before now : Keeping) (result : Result Bool LogError) (old new : Disk) : Type 0 where
  pub steps : SteppedAs before now old new
  pub made : IsTrue before.is_built_in → MadeStep before now result old new

-- all that is left, of a built-in roller
pub record MadeAll
    (before now : Keeping) (result : Result Unit LogError) (old new : Disk) : Type 0 where
  -- all moves that are left are made, and then none is left
  pub moved : OnOk result (Calls old new (MovedAll (files_of old) before.rest))
  pub done : OnOk result (now.rest ≡ [])
  pub ended : OnOk result (NothingLeft before now)
  -- then the archives show the segments that they and a file that waited showed
  pub shown : (path : List ℕ) → OnOk result (ShowsAtLast before path old new)
  -- where it fails, a beginning of the moves is made
  pub err : OnErr result (Calls old new (MovedPartly (files_of old) before.rest))
  pub unrefused : OnOk result (new.refusals ≡ old.refusals)
  pub fault : IfErr result (MayAnswer old.refusals new.refusals)
  -- three operations for each move
  pub cost : Costs (3 * length before.rest) result old new

-- all that is left: of any roller steps, and of a built-in one this
pub record Driven
    (before now : Keeping) (result : Result Unit LogError) (old new : Disk) : Type 0 where
  pub steps : SteppedAs before now old new
  pub made : IsTrue before.is_built_in → MadeAll before now result old new
