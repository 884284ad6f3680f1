-- Windows that differ in how many archives they have, and what is kept where settings change.
use Rattle.std.specs.Prelude.{◌≡◌, ◌++◌, ℕ, zero, suc, List, take}
use Rattle.log4rs_rolling.specs.Change.{Change, Files, replay, written}
use Rattle.log4rs_rolling.specs.Disk.{Disk}
use Rattle.log4rs_rolling.specs.Window.{KeepsTheEnd, NoCopies, Window, around, contents, kept}
use Rattle.log4rs_restarts.specs.Stops.{Changed}
use Rattle.log4rs_restarts.specs.declared.rolling_settings.RollingSettings.{RollingSettings}

-- the same files under the same names: the count may differ, and what changes no name
pub record SameFiles (one other : RollingSettings) : Type 0 where
  pub path : other.path ≡ one.path
  pub pattern : other.pattern ≡ one.pattern
  pub base : other.base ≡ one.base
  pub background : other.background ≡ one.background
  pub env : other.env ≡ one.env

-- the window with these archives before its own, which are newer
abbrev pub widened : List (List ℕ) → Window → Window
widened older window = around (older ++ window.archives) window.waiting window.active

-- without copies, P holds of each beginning of what was changed
abbrev pub AtEach : Disk → Disk → (List Change → Type 0) → Type 0
AtEach old new P = Changed old new (λ added. NoCopies added → (n : ℕ) → P (take n added))

-- what the window keeps after the changes is the end of what the wider one kept before, followed by
-- what was written since
abbrev pub KeepsTheEndOf : List (List ℕ) → Window → Files → List Change → Type 0
KeepsTheEndOf older window files changes =
    (gone : List ℕ)
    × (gone ++ kept window (replay files changes)
    ≡ kept (widened older window) files ++ written window.active changes)

-- the older archives hold what they held, and the window keeps its end
abbrev pub KeepsBehind : List (List ℕ) → Window → Files → List Change → Type 0
KeepsBehind older window files changes =
    (contents (replay files changes) older ≡ contents files older)
    × KeepsTheEnd window files changes

-- a text without at most so many of its parts
abbrev pub LeavesOut : ℕ → List ℕ → List ℕ → Type 0
LeavesOut zero text left = left ≡ text
LeavesOut (suc n) text left =
    (front : List ℕ) × (gone : List ℕ) × (rest : List ℕ)
    × (text ≡ front ++ gone ++ rest)
    × LeavesOut n (front ++ rest) left

-- what is kept is what was kept before, followed by what was written since, without at most so many
-- parts of that
abbrev pub KeepsBut : ℕ → Window → Files → List Change → Type 0
KeepsBut n window files changes =
    LeavesOut n (kept window files ++ written window.active changes)
    (kept window (replay files changes))
