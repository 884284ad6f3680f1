-- Files that one appender hands over to another.
use Rattle.std.specs.Prelude.{◌≡◌, ℕ, List, ◌++◌, IsTrue}
use Rattle.log4rs_rolling.specs.Change.{Change, written}
use Rattle.log4rs_rolling.specs.Disk.{Disk, Calls, Told, files_of}
use Rattle.log4rs_rolling.specs.Window.{Window, Good, kept}

-- one appender worked from its opening to its end, and another from its own opening, with the files
-- that the first left, until now; the stores tell, and each change kept the window, or dropped the
-- oldest archive
pub record HandsOver (window : Window) (opening end start now : Disk) : Type 0 where
  pub before : Calls opening end (Good window (files_of opening))
  pub behind : Calls start now (Good window (files_of start))
  pub files : files_of start ≡ files_of end
  pub tells : IsTrue opening.tells × IsTrue start.tells

-- what is kept now is the end of what was kept at the opening, followed by what the first and then
-- the other wrote
abbrev pub KeepsTheEndOver : Window → Disk → Disk → Disk → Disk → Type 0
KeepsTheEndOver window opening end start now =
    (first : List Change) × (others : List Change) × (gone : List ℕ)
    × Told opening end first
    × Told start now others
    × (gone ++ kept window (files_of now)
    ≡ kept window (files_of opening) ++ written window.active (first ++ others))
