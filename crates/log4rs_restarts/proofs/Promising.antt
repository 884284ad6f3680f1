-- What runs promise, whatever stops them.
use Rattle.std.proofs.Common.{◌≡◌, ◌<◌, ◌∙◌, ◌↔◌, ℕ, zero, suc, List, [], ◌∷◌, ◌++◌, Option, Some, None, Bool, true, false, Result, Ok, Err, IfOk, OnErr, IfSome, IsSome, ap, length, map, refl, sym, take, drop, subst, if◌then◌else◌, arith}
use Rattle.std.specs.List.{flat_map}
use Rattle.std.proofs.lemmas.List.{length-map}
use Rattle.log4rs_rolling.specs.Archives.{waiting_name}
use Rattle.log4rs_rolling.specs.Change.{Change, Files, replay}
use Rattle.log4rs_rolling.specs.Disk.{Disk, files_of}
use Rattle.log4rs_rolling.specs.Appends.{Reading}
use Rattle.log4rs_rolling.specs.Keeping.{Keeping}
use Rattle.log4rs_rolling.specs.Moves.{archive_names}
use Rattle.log4rs_rolling.specs.Roller.{archives_of, waiting_if}
use Rattle.log4rs_rolling.specs.Window.{Window, AreDistinct, Good, GoodWithin, KeepsTheEnd, NoCopies, around, names}
use Rattle.log4rs_rolling.proofs.Windows.{Good-front, good_end}
use Rattle.log4rs_restarts.specs.Acts.{RunDone, all_changes, changes_in}
use Rattle.log4rs_restarts.specs.ActsDone.{DidRuns}
use Rattle.log4rs_restarts.specs.RollingSettings.{archive_name, keeping_of, path_of, window_of}
use Rattle.log4rs_restarts.specs.Runs.{AreRuns, Ran, RanOver}
use Rattle.log4rs_restarts.specs.Stops.{Changed}
use Rattle.log4rs_restarts.specs.Suffix.{DropsTheOldest, HoldsASuffix, InWindow}
use Rattle.log4rs_restarts.specs.Rotations.{rotations_begun}
use Rattle.log4rs_restarts.specs.Triggers.{Begins}
use Rattle.log4rs_restarts.specs.declared.rolling_settings.RollingSettings.{RollingSettings}
use Rattle.log4rs_restarts.specs.declared.run.Report.{Report}
use Rattle.log4rs_restarts.specs.declared.run.Run.{Run}
use Rattle.log4rs_restarts.specs.declared.run.RunReport.{RunReport}
use Rattle.log4rs_restarts.specs.declared.settings.TriggerSettings.{TriggerSettings}
use Rattle.log4rs_restarts.proofs.Cutting.{split}
use Rattle.log4rs_restarts.proofs.Did.{did_as}
use Rattle.log4rs_restarts.proofs.Doing.{changed_map, changed_none}
use Rattle.log4rs_restarts.proofs.Windowed.{runs_over, window_fresh}

-- each beginning of good changes keeps the end
ends_always : (w : Window) (files : Files) (added : List Change) → Good w files added → (n : ℕ) → KeepsTheEnd w files (take n added)
ends_always w files added good n =
    good_end w files (take n added) (Good-front w files (take n added) (drop n added) (subst (Good w files) (split n added) good))

-- The window of settings is the one that their roller keeps, if it keeps an archive.

abbrev named : (ℕ → List ℕ) → ℕ → ℕ → Bool → List ℕ → Window
named name base count background path =
    record {
      archives = archive_names name base count;
      waiting = if background then Some (waiting_name path) else None;
      active = path;
    }

-- what holds of the roller's window holds of the names
over_names : (F : Window → Type 0) (name : ℕ → List ℕ) (base count : ℕ) (background : Bool) (path : List ℕ) → IfSome (archives_of name base count) (λ older. F (around older (waiting_if background path) path))
    → 0 < length (archive_names name base count) → F (named name base count background path)
over_names F name base zero background path kept some = absurd (omega arith)
over_names F name base (suc n) true path kept some = kept
over_names F name base (suc n) false path kept some = kept

-- and the other way round
of_names : (F : Window → Type 0) (name : ℕ → List ℕ) (base count : ℕ) (background : Bool) (path : List ℕ) → (0 < length (archive_names name base count) → F (named name base count background path))
    → IfSome (archives_of name base count) (λ older. F (around older (waiting_if background path) path))
of_names F name base zero background path promised = tt
of_names F name base (suc n) true path promised = promised (omega arith)
of_names F name base (suc n) false path promised = promised (omega arith)

some_names : (name : ℕ → List ℕ) (base count : ℕ) → 0 < length (archive_names name base count) ↔ IsSome (archives_of name base count)
some_names name base zero = (λ some. absurd (omega arith), λ some. absurd (clash some)) where
  clash : false ≡ true → ⊥
  clash e = cc
some_names name base (suc n) = (λ some. refl, λ some. omega arith)

pub window_kept : (settings : RollingSettings) → IfSome (keeping_of settings).archives (λ older. window_of settings ≡ around older ((keeping_of settings).waiting (path_of settings)) (path_of settings))
window_kept settings = of_names (λ w. window_of settings ≡ w) (archive_name settings) settings.base settings.count settings.background (path_of settings) (λ some. refl)

pub archives_kept : (settings : RollingSettings) → 0 < length (window_of settings).archives ↔ IsSome (keeping_of settings).archives
archives_kept settings = some_names (archive_name settings) settings.base settings.count

-- what runs did to the window
changed_in : (settings : RollingSettings) (reading : Option Reading) (runs : List Run) (reports : List RunReport) (d0 d1 : Disk) → RanOver (keeping_of settings) settings.trigger (path_of settings) reading runs reports d0 d1
    → InWindow (window_of settings) d0 d1 (Ran settings.trigger reading (window_of settings) (files_of d0) runs reports)
changed_in settings reading runs reports d0 d1 ran =
    over_names (λ w. AreDistinct (names w) → Changed d0 d1 (Ran settings.trigger reading w (files_of d0) runs reports)) (archive_name settings) settings.base settings.count settings.background (path_of settings) ran

-- what of them the clauses say
pub ran_over : (settings : RollingSettings) (trigger : TriggerSettings) (reading : Option Reading) (keeping : Keeping) (path : List ℕ) (runs : List Run) (reports : List RunReport) (d0 d1 : Disk)
    → trigger ≡ settings.trigger → keeping ≡ keeping_of settings → path ≡ path_of settings → DidRuns (Begins trigger) reading keeping path runs reports d0 d1
    → RanOver (keeping_of settings) settings.trigger (path_of settings) reading runs reports d0 d1
ran_over settings trigger reading keeping path runs reports d0 d1 same_trigger same_keeping same_path did =
    runs_over settings.trigger reading (keeping_of settings) (path_of settings) runs reports d0 d1
    (window_fresh (archive_name settings) settings.base settings.count settings.rename_only settings.background (path_of settings))
    (did_as trigger settings.trigger reading keeping (keeping_of settings) path (path_of settings) runs reports d0 d1 same_trigger same_keeping same_path did)

suffix_over : (settings : RollingSettings) (reading : Option Reading) (runs : List Run) (reports : List RunReport) (d0 d1 : Disk) → RanOver (keeping_of settings) settings.trigger (path_of settings) reading runs reports d0 d1
    → HoldsASuffix (window_of settings) d0 d1
suffix_over settings reading runs reports d0 d1 ran =
    λ some distinct.
    let w = window_of settings in
    changed_map d0 d1 (Ran settings.trigger reading w (files_of d0) runs reports) (λ added. NoCopies added → (n : ℕ) → KeepsTheEnd w (files_of d0) (take n added)) (changed_in settings reading runs reports d0 d1 ran some distinct)
    (λ added x. λ clean n. ends_always w (files_of d0) added (x.good clean) n)

-- where nothing was changed
pub suffix_same : (window : Window) (disk : Disk) → HoldsASuffix window disk disk
suffix_same window disk = λ some distinct. changed_none (λ added. NoCopies added → (n : ℕ) → KeepsTheEnd window (files_of disk) (take n added)) disk (λ clean n. ends_always window (files_of disk) [] tt n)

-- with a report, and without one, when nothing was changed
pub suffix_by : {E : Type 0} (settings : RollingSettings) (reading : Option Reading) (runs : List Run) (result : Result Report E) (d0 d1 : Disk)
    → IfOk result (λ report. RanOver (keeping_of settings) settings.trigger (path_of settings) reading runs report.runs.items d0 d1) → OnErr result (d1 ≡ d0) → HoldsASuffix (window_of settings) d0 d1
suffix_by settings reading runs (Ok report) d0 d1 ran same = suffix_over settings reading runs report.runs.items d0 d1 ran
suffix_by settings reading runs (Err e) d0 d1 ran same = subst (λ d. HoldsASuffix (window_of settings) d0 d) (sym same) (suffix_same (window_of settings) d0)

-- what is promised of drops
abbrev Dropped : List Run → List RunReport → Window → Files → List Change → Type 0
Dropped runs reports window files added =
    (each : List (List Change)) × (added ≡ flat_map (λ part. part) each) × (length each ≡ length runs) × (NoCopies added → GoodWithin (rotations_begun window files each reports) window files added)

-- how many runs there are

are_many : (trigger : TriggerSettings) (reading : Option Reading) (w : Window) (files : Files) (runs : List Run) (reports : List RunReport) (dones : List RunDone) → AreRuns trigger reading w files runs reports dones
    → length (map changes_in dones) ≡ length runs
are_many trigger reading w files [] [] [] are = refl
are_many trigger reading w files [] [] (done ∷ dones) are = absurd are
are_many trigger reading w files [] (report ∷ reports) dones are = absurd are
are_many trigger reading w files (run ∷ runs) [] dones are = absurd are
are_many trigger reading w files (run ∷ runs) (report ∷ reports) [] are = absurd are
are_many trigger reading w files (run ∷ runs) (report ∷ reports) (done ∷ dones) are = ap suc (are_many trigger reading w (replay files (changes_in done)) runs reports dones are.2)

each_is : (dones : List RunDone) → all_changes dones ≡ flat_map (λ part. part) (map changes_in dones)
each_is [] = refl
each_is (done ∷ dones) = ap (λ (c : List Change). changes_in done ++ c) (each_is dones)

abbrev nothing : Run → List Change
nothing run = []

nothing_each : (runs : List Run) → [] ≡ flat_map (λ part. part) (map nothing runs)
nothing_each [] = refl
nothing_each (run ∷ runs) = nothing_each runs

pub drops_over : (settings : RollingSettings) (reading : Option Reading) (runs : List Run) (reports : List RunReport) (d0 d1 : Disk) → RanOver (keeping_of settings) settings.trigger (path_of settings) reading runs reports d0 d1
    → DropsTheOldest (window_of settings) runs reports d0 d1
drops_over settings reading runs reports d0 d1 ran =
    λ some distinct.
    let w = window_of settings in
    changed_map d0 d1 (Ran settings.trigger reading w (files_of d0) runs reports) (Dropped runs reports w (files_of d0)) (changed_in settings reading runs reports d0 d1 ran some distinct)
    (λ added x. (map changes_in x.done, x.all ∙ each_is x.done, are_many settings.trigger reading w (files_of d0) runs reports x.done x.are, x.drops))

pub drops_same : (window : Window) (runs : List Run) (reports : List RunReport) (disk : Disk) → DropsTheOldest window runs reports disk disk
drops_same window runs reports disk =
    λ some distinct. changed_none (Dropped runs reports window (files_of disk)) disk (map nothing runs, nothing_each runs, length-map runs nothing, λ clean. tt)
