-- A rolled file that one appender hands over to another.
use Rattle.std.specs.Prelude.{◌≡◌, ◌⊎◌, ℕ, List, Bool, Some, IfSome, IsTrue, Result, Ok, Err, take}
use Rattle.log4rs_base.specs.declared.error.LogError.{LogError}
use Rattle.log4rs_rolling.specs.AtOpening.{AskedThenOpened, AskedThenTried, FailsToOpen}
use Rattle.log4rs_rolling.specs.Disk.{Calls, Disk, files_of}
use Rattle.log4rs_rolling.specs.Keeping.{Keeping, Stands}
use Rattle.log4rs_rolling.specs.Window.{Anywhere, KeepsTheEnd, NoCopies, around}
use Rattle.log4rs_rolling.specs.Background.{Driven}
use Rattle.log4rs_append.specs.PlainFile.{IsShut}

-- over one window of both policies, of which the second has begun nothing: in append mode, if the
-- window stood at the opening of the first and nothing was copied since, it holds, after each
-- change, a suffix of what it held at that opening and all that was written since
abbrev pub KeepsItsEndOver : Keeping → Keeping → List ℕ → Bool → Disk → Disk → Type 0
KeepsItsEndOver first second path append opening now =
    IfSome first.archives (λ older.
    let window = around older (first.waiting path) path in
    second.archives ≡ Some older
    → second.waiting path ≡ first.waiting path
    → second.vacant path ≡ Anywhere
    → IsTrue append
    → Stands window (first.vacant path) opening
    → Calls opening now (λ added.
    NoCopies added → (n : ℕ) → KeepsTheEnd window (files_of opening) (take n added)))

-- what was left of a rotation was done, and the file closed; then the second policy opened it
pub record HandedOver
    (first second now : Keeping) (path : List ℕ) (append : Bool) (old start new : Disk)
    : Type 0 where
  pub left : Keeping
  pub driven : Driven first left (Ok tt) old start
  pub closed : IsShut start
  pub opened : AskedThenOpened second now path append start new

-- what was left of a rotation was refused, and the file closed
pub record IsNotRetired (first : Keeping) (old new : Disk) (fault : LogError) : Type 0 where
  pub left : Keeping
  pub driven : Driven first left (Err fault) old new
  pub closed : IsShut new

-- it was done, and the file closed; then its opening by the second policy was refused
pub record IsNotOpened
    (first second : Keeping) (path : List ℕ) (append : Bool) (old new : Disk) (fault : LogError)
    : Type 0 where
  pub left : Keeping
  pub start : Disk
  pub driven : Driven first left (Ok tt) old start
  pub closed : IsShut start
  pub tried : AskedThenTried second path append start new
  pub cause : IsTrue second.is_built_in → FailsToOpen second path start new fault

-- one of the two
abbrev pub IsRefusedOver : Keeping → Keeping → List ℕ → Bool → Disk → Disk → LogError → Type 0
IsRefusedOver first second path append old new fault =
    IsNotRetired first old new fault ⊎ IsNotOpened first second path append old new fault
