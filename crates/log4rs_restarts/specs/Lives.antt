-- Lives of a program, one after another, each with its own settings.
use Rattle.std.specs.Prelude.{◌≡◌, ◌<◌, ◌++◌, ◌||◌, ℕ, List, [], ◌∷◌, None, IsTrue, length}
use Rattle.log4rs_rolling.specs.Disk.{Disk}
use Rattle.log4rs_rolling.specs.Places.{OnlyOf}
use Rattle.log4rs_rolling.specs.Window.{NoCopies, Window, names}
use Rattle.log4rs_restarts.specs.RollingSettings.{refusal_of, window_of}
use Rattle.log4rs_restarts.specs.Sessions.{AreReportedBy, RanBy}
use Rattle.log4rs_restarts.specs.Stops.{Changed}
use Rattle.log4rs_restarts.specs.Suffix.{DropsTheOldest, HoldsASuffix}
use Rattle.log4rs_restarts.specs.Widened.{widened}
use Rattle.log4rs_restarts.specs.declared.by_life.Life.{Life}
use Rattle.log4rs_restarts.specs.declared.rolling_settings.RollingSettings.{RollingSettings}
use Rattle.log4rs_restarts.specs.declared.run.Report.{Report}

-- what runs of these settings did to files, whatever they report
pub record KeptBy (settings : RollingSettings) (old new : Disk) : Type 0 where
  pub suffix : HoldsASuffix (window_of settings) old new
  -- no other file is touched
  pub elsewhere : Changed old new (OnlyOf (names (window_of settings)))
  pub renames : IsTrue (settings.background || settings.rename_only) → Changed old new NoCopies

-- the same of each life, one after another over one store
abbrev pub AreKept : List Life → Disk → Disk → Type 0
AreKept [] old new = new ≡ old
AreKept (life ∷ lives) old new =
    (left : Disk) × KeptBy life.settings old left × AreKept lives left new

-- what a life did, as its report says
pub record LifeDid (life : Life) (report : Report) (old new : Disk) : Type 0 where
  pub ran : refusal_of life.settings ≡ None
      → RanBy life.settings life.runs.items report.runs.items old new
  pub kept : KeptBy life.settings old new
  pub drops : DropsTheOldest (window_of life.settings) life.runs.items report.runs.items old new
  pub reported : AreReportedBy life.settings life.runs.items report.runs.items old new

-- what all of them did
abbrev pub LivesDid : List Life → List Report → Disk → Disk → Type 0
LivesDid [] [] old new = new ≡ old
LivesDid (life ∷ lives) (report ∷ reports) old new =
    (left : Disk) × LifeDid life report old left × LivesDid lives reports left new
LivesDid [] (report ∷ reports) old new = ⊥
LivesDid (life ∷ lives) [] old new = ⊥

-- the window is the wide one without these archives, and has others
abbrev pub IsWithin : List (List ℕ) → Window → Window → Type 0
IsWithin older wide window = (wide ≡ widened older window) × (0 < length window.archives)

-- each life keeps the wide window but for archives of its own, which it hides
abbrev pub AreWithin : Window → List Life → Type 0
AreWithin wide [] = Unit {0}
AreWithin wide (life ∷ lives) =
    ((older : List (List ℕ)) × IsWithin older wide (window_of life.settings)) × AreWithin wide lives

-- the first hides no other archives than these, and each later one none that the one before did not
abbrev pub Rise : List (List ℕ) → Window → List Life → Type 0
Rise hidden wide [] = Unit {0}
Rise hidden wide (life ∷ lives) =
    (older : List (List ℕ)) × (more : List (List ℕ))
    × (hidden ≡ older ++ more)
    × IsWithin older wide (window_of life.settings)
    × Rise older wide lives
