-- Every moment since an opening is good.
use Rattle.std.specs.Prelude.{ℕ, List, IfSome, Bool, IsTrue, ◌⊎◌}
use Rattle.log4rs_rolling.specs.Change.{replay}
use Rattle.log4rs_rolling.specs.Disk.{Disk, Calls, files_of}
use Rattle.log4rs_rolling.specs.Window.{Good, NoCopies, Vacant, around}
use Rattle.log4rs_rolling.specs.Keeping.{Keeping, Stands, StaysAmong}
use Rattle.log4rs_rolling.specs.Copies.{CopiesNeedRefusal, NothingRefused}

-- what was changed since an opening
pub record GoodSince
    (settings keeping : Keeping) (active : List ℕ)
    (append : Bool) (opening now : Disk) : Type 0 where
  -- keeps the window in append mode, where it stood at the opening and nothing was copied
  pub kept : IfSome settings.archives (λ older.
      let window = around older (settings.waiting active) active in
      IsTrue append
      → Stands window (settings.vacant active) opening
      → Calls opening now (λ added.
      (NoCopies added → Good window (files_of opening) added)
      × Vacant (keeping.vacant active) active (replay (files_of opening) added)))
  -- and nothing was copied, where the settings only rename
  pub renames : IsTrue settings.renames → Calls opening now NoCopies
  -- and where they are built in, not before something was refused
  pub copies : IsTrue settings.is_built_in → CopiesNeedRefusal opening now
  -- and no file beside the window was touched, where no rolling of another file waits
  pub elsewhere : StaysAmong settings keeping active opening now
  -- it is the same store, which went on
  pub store : Calls opening now (λ added. Unit {0})

-- nothing was copied since, as one sees without the changes:
-- the settings only rename, or they are built in, and nothing was refused
abbrev pub CopiesNothing : Keeping → Disk → Disk → Type 0
CopiesNothing settings opening now =
    IsTrue settings.renames ⊎ (IsTrue settings.is_built_in × NothingRefused opening now)

-- the same as in `kept`, where nothing was copied: nothing is asked of what was changed
abbrev pub KeptSince : Keeping → List ℕ → Bool → Disk → Disk → Type 0
KeptSince settings active append opening now =
    IfSome settings.archives (λ older.
    let window = around older (settings.waiting active) active in
    IsTrue append
    → Stands window (settings.vacant active) opening
    → Calls opening now (Good window (files_of opening)))
