-- What is done when a rolled file is opened.
use Rattle.std.specs.Prelude.{◌≡◌, ◌+◌, ℕ, List, [], ◌∷◌, ◌++◌, Bool, false, Option, Some, None, IsTrue}
use Rattle.std.specs.Prelude.{IfSome, IsSome, if◌then◌else◌, Result, IfErr, OnErr, OnOk}
use Rattle.log4rs_rolling.specs.Change.{Change, Files, opened}
use Rattle.log4rs_rolling.specs.Disk.{Disk, Calls, Does, Grew, files_of}
use Rattle.log4rs_rolling.specs.Costs.{Costs}
use Rattle.log4rs_rolling.specs.Faults.{MayAnswer}
use Rattle.log4rs_base.specs.declared.error.LogError.{LogError}
use Rattle.log4rs_base.specs.declared.error.LogError.TheVariants.{Store}
use Rattle.log4rs_rolling.specs.Keeping.{Keeping, SteppedAt, rotation_cost}
use Rattle.log4rs_rolling.specs.Moves.{MovedAll, MovedPartly, each_to_the_older, if_there}
use Rattle.log4rs_rolling.specs.FileChanges.{OnlyOpens, way}
use Rattle.log4rs_rolling.specs.SegmentGrowth.{ShowsFromStart}
use Rattle.log4rs_rolling.specs.Window.{VacantAt}

-- it is built in, and rolls at once
abbrev pub RollsAtOnce : Keeping → List ℕ → Type 0
RollsAtOnce keeping path = IsTrue keeping.is_built_in × (keeping.waiting path ≡ None)

-- if it keeps archives and rolls in the background, it looked for a waiting file: no rotation is
-- left, the waiting name is vacant, and the moves of the next rotation are visible
abbrev pub HasLooked : Keeping → Keeping → List ℕ → Type 0
HasLooked before now path =
    IsSome before.archives
    → IfSome (before.waiting path) (λ waiting.
    (now.vacant path ≡ VacantAt waiting) × IsSome (now.moves path))

-- the moves of the rotation of a waiting file, if there is one: it is found by a rename of it to
-- itself
abbrev pub found_moves : Option (List (List ℕ)) → Option (List ℕ) → Files
    → List (List ℕ × List ℕ)
found_moves None waiting files = []
found_moves (Some older) None files = []
found_moves (Some older) (Some waiting) files =
    if_there (files waiting) ((waiting, waiting) ∷ each_to_the_older (older ++ waiting ∷ []))

-- the moves of an opening: those that are left, or, if it had not looked for a waiting file, those
-- of the rotation of such a file
abbrev pub opening_moves : Keeping → List ℕ → Files → List (List ℕ × List ℕ)
opening_moves keeping path files =
    if keeping.asked
    then keeping.rest
    else found_moves keeping.archives (keeping.waiting path) files

-- all moves of an opening change this, or a beginning of them
abbrev pub MadeReadyAll : Keeping → List ℕ → Files → List Change → Type 0
MadeReadyAll keeping path files added = MovedAll files (opening_moves keeping path files) added

abbrev pub MadeReadyPartly : Keeping → List ℕ → Files → List Change → Type 0
MadeReadyPartly keeping path files added =
    MovedPartly files (opening_moves keeping path files) added

-- an opening makes its moves, and changes nothing else: if the result is Ok all of them, and else a
-- beginning
pub record MadeMoves
    (before : Keeping) (path : List ℕ)
    (result : Result Unit LogError) (old new : Disk) : Type 0 where
  pub all : OnOk result (Calls old new (MadeReadyAll before path (files_of old)))
  pub partly : OnErr result (Calls old new (MadeReadyPartly before path (files_of old)))

-- what a built-in roller does before a file is opened
pub record MadeReady
    (before now : Keeping) (path : List ℕ)
    (result : Result Unit LogError) (old new : Disk) : Type 0 where
  -- its moves are made, and no others
  pub moves : MadeMoves before path result old new
  -- it looked, whether or not it had before
  pub looked : OnOk result (HasLooked before now path)
  -- the moves of a rotation are visible then
  pub told : IsSome before.archives → OnOk result (IsSome (now.moves path))
  -- if it had not looked before, the archives show the segments of the start
  pub shown : before.asked ≡ false → OnOk result (ShowsFromStart before path old new)
  pub unrefused : OnOk result (new.refusals ≡ old.refusals)
  pub fault : IfErr result (MayAnswer old.refusals new.refusals)
  pub cost : Costs (rotation_cost before) result old new

-- what is done about an unfinished rotation: of any roller steps, and of a built-in one these
pub record Readied
    (before now : Keeping) (path : List ℕ)
    (result : Result Unit LogError) (old new : Disk) : Type 0 where
  pub steps : SteppedAt before now path old new
  pub made : IsTrue before.is_built_in → MadeReady before now path result old new

-- the store denied the opening, or what came before it
abbrev pub FailsToOpen : Keeping → List ℕ → Disk → Disk → LogError → Type 0
FailsToOpen before path old new fault =
    MayAnswer old.refusals new.refusals fault
    × (RollsAtOnce before path → fault ≡ Store)
    × (IsTrue old.tells → fault ≡ Store → Grew old.denials new.denials)

-- how many operations an opening needs at most: those of a rotation, one to open the file, and one
-- for its length
abbrev pub opening_cost : Keeping → ℕ
opening_cost keeping = rotation_cost keeping + 2

-- what was done about an unfinished rotation, and then one opening of the file
pub record AskedThenOpened
    (before now : Keeping) (path : List ℕ) (append : Bool) (old new : Disk) : Type 0 where
  -- between the two
  pub asked : Disk
  pub stepped : SteppedAt before now path old asked
  -- a built-in roller made its moves, and no others
  pub moved : IsTrue before.is_built_in
      → Calls old asked (MadeReadyAll before path (files_of old))
  pub idle : RollsAtOnce before path → Calls old asked (λ added. added ≡ [])
  pub opens : Does asked new (opened path (way append) ∷ []) asked.refusals (Some path)
  -- if it rolls at once, the file was opened, and nothing else was done
  pub at_once : RollsAtOnce before path
      → Does old new (opened path (way append) ∷ []) old.refusals (Some path)
  -- a built-in roller looked, and the moves of a rotation are visible
  pub looked : IsTrue before.is_built_in → HasLooked before now path
  pub told : IsTrue before.is_built_in → IsSome before.archives → IsSome (now.moves path)
  -- if it had not looked before, the archives show the segments of the start, in append mode
  pub shown : IsTrue before.is_built_in → before.asked ≡ false → IsTrue append
      → ShowsFromStart before path old new
  pub unrefused : IsTrue before.is_built_in → new.refusals ≡ old.refusals

-- the same, where one of the two was refused
pub record AskedThenTried
    (before : Keeping) (path : List ℕ) (append : Bool) (old new : Disk) : Type 0 where
  pub now : Keeping
  pub asked : Disk
  pub stepped : SteppedAt before now path old asked
  -- a built-in roller made a beginning of its moves, and no others
  pub moved : IsTrue before.is_built_in
      → Calls old asked (MadeReadyPartly before path (files_of old))
  pub idle : RollsAtOnce before path → Calls old asked (λ added. added ≡ [])
  pub opens : Calls asked new (OnlyOpens path (way append))
