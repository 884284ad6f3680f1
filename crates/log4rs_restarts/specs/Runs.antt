-- What runs over one store did, one after another.
use Rattle.std.specs.Prelude.{◌≡◌, ◌≤◌, ℕ, List, [], ◌∷◌, ◌++◌, Option, None, Some}
use Rattle.std.specs.Prelude.{is_ok, OnErr, OnOk, IfSome, map, vec_len, vec_capacity, length}
use Rattle.log4rs_rolling.specs.Change.{Change, opened, Files, replay, written}
use Rattle.log4rs_rolling.specs.declared.store.Open.TheVariants.{Append}
use Rattle.log4rs_rolling.specs.Disk.{Disk, files_of}
use Rattle.log4rs_rolling.specs.Window.{Window, Good, GoodWithin, NoCopies, AreDistinct, Anywhere, around, names}
use Rattle.log4rs_rolling.specs.AtOpening.{found_moves}
use Rattle.log4rs_rolling.specs.Moves.{MovedAll, MovedPartly}
use Rattle.log4rs_rolling.specs.FileChanges.{OnlyOpens}
use Rattle.log4rs_rolling.specs.Appends.{Reading}
use Rattle.log4rs_rolling.specs.Keeping.{Keeping, SteppedIn}
use Rattle.log4rs_rolling.specs.ArchiveEnds.{AreAt, EndsAt, ends, longer, older_of}
use Rattle.log4rs_rolling.specs.Segments.{Shows, begun}
use Rattle.log4rs_rolling.specs.Window.{NoGaps}
use Rattle.log4rs_restarts.specs.Stops.{Changed, StopsAt}
use Rattle.log4rs_restarts.specs.Reports.{acts_in, NoCounts}
use Rattle.log4rs_restarts.specs.Failures.{refused_settings}
use Rattle.log4rs_restarts.specs.Segmented.{SegmentsIn, SegmentsBehind}
use Rattle.log4rs_restarts.specs.Rotations.{rotations_begun}
use Rattle.log4rs_restarts.specs.Triggers.{Begins}
use Rattle.log4rs_restarts.specs.Acts.{RunDone, changes_before, changes_in, all_changes, BuiltIn}
use Rattle.log4rs_restarts.specs.Acts.{ActEffect, answers_of}
use Rattle.log4rs_restarts.specs.Acts.{AreEffects, GoOn, VacanciesGo, at_rest, cuts_of, AreAmong}
use Rattle.log4rs_restarts.specs.declared.run.Act.{Act}
use Rattle.log4rs_restarts.specs.declared.settings.TriggerSettings.{TriggerSettings}
use Rattle.log4rs_restarts.specs.declared.run.RunReport.{RunReport}
use Rattle.log4rs_restarts.specs.declared.run.Run.{Run}

-- one run, on these files, with a trigger that begins so and no rotation begun: it completes a
-- rotation that an earlier run left, opens the file, and if both succeed does its acts in order,
-- each once; the report says so
pub record IsRun
    (Starts : BuiltIn → Type 0) (reading : Option Reading)
    (window : Window) (files : Files)
    (acts : List Act) (report : RunReport) (run : RunDone) : Type 0 where
  -- it drops at most the oldest archive before the file is opened
  pub asked : SteppedIn Anywhere run.vacancy window files run.asked
  -- if a file waits, it makes the moves of its rotation then, and no others: all of them, or a
  -- beginning if it does not open its file
  pub moved : OnOk report.opening
      (MovedAll files (found_moves (Some window.archives) window.waiting files) run.asked)
  pub partly : OnErr report.opening
      (MovedPartly files (found_moves (Some window.archives) window.waiting files) run.asked)
  -- and does nothing there if rotations are made at once
  pub idle : window.waiting ≡ None → run.asked ≡ []
  -- then nothing waits
  pub rests : OnOk report.opening (run.vacancy ≡ at_rest window)
  -- if the archives had no gap, they show the segments of the start then: a file that waited is the
  -- newest closed one
  pub shows : OnOk report.opening
      (NoGaps files window.archives
      → Shows (begun (older_of window) window.active files) window.archives window.active
      (replay files (changes_before run)))
  pub opens : OnlyOpens window.active Append run.opening
  pub opened : OnOk report.opening (run.opening ≡ opened window.active Append ∷ [])
  pub acted : map (λ (d : ActEffect). d.act) run.effects ≡ acts_in (is_ok report.opening) acts
  pub effects : AreEffects reading window (replay files (changes_before run)) run.effects
  pub triggers : GoOn Starts run.effects
  pub vacant : VacanciesGo (at_rest window) run.effects
  pub outcomes : report.outcomes.items ≡ map (λ (d : ActEffect). d.outcome) run.effects
  pub answers : report.answers.items ≡ answers_of run.effects

-- all runs, each on the files that the one before left,
-- with a new trigger, and with no more changes than its stop allows
abbrev pub AreRuns : TriggerSettings → Option Reading → Window → Files
    → List Run → List RunReport → List RunDone → Type 0
AreRuns trigger reading window files [] [] [] = Unit {0}
AreRuns trigger reading window files (run ∷ runs) (report ∷ reports) (done ∷ dones) =
    IsRun (Begins trigger) reading window files run.acts.items report done
    × StopsAt run.stop_after (changes_in done)
    × AreRuns trigger reading window (replay files (changes_in done)) runs reports dones
AreRuns trigger reading window files [] [] (done ∷ dones) = ⊥
AreRuns trigger reading window files [] (report ∷ reports) dones = ⊥
AreRuns trigger reading window files (run ∷ runs) [] dones = ⊥
AreRuns trigger reading window files (run ∷ runs) (report ∷ reports) [] = ⊥

-- the lengths of the stream at which a trigger fired, in all runs
abbrev pub all_cuts : List ℕ → ℕ → List RunDone → List ℕ
all_cuts active at [] = []
all_cuts active at (run ∷ runs) =
    cuts_of active at run.effects
    ++ all_cuts active (longer (written active (changes_in run)) at) runs

-- the effect of runs on the files of a window, whatever stopped them: they are openings, appends
-- and steps, as the report says; every moment is good, and at most as many archives are dropped as
-- triggers fired and runs found a waiting file; and, from the first run's start on, the first kept
-- byte and the end of each archive stand where one stood at the start, or at a cut. With a size
-- trigger the files show the segments, if nothing is refused, at once or in the background
pub record Ran
    (trigger : TriggerSettings) (reading : Option Reading)
    (window : Window) (files : Files) (runs : List Run)
    (reports : List RunReport) (added : List Change) : Type 0 where
  pub done : List RunDone
  pub all : added ≡ all_changes done
  pub are : AreRuns trigger reading window files runs reports done
  pub good : NoCopies added → Good window files added
  pub drops : NoCopies added
      → GoodWithin (rotations_begun window files (map changes_in done) reports) window files added
  pub ends : NoCopies added
      → (places : List ℕ) (at : ℕ) → AreAt places at (ends window files)
      → AreAmong places (all_cuts window.active at done)
      → EndsAt places window files at added
  pub segments : SegmentsIn trigger reading window files reports done
  pub behind : SegmentsBehind trigger reading window files reports done

-- a run did not open its file because of its settings
abbrev pub IsRefused : RunReport → Type 0
IsRefused report = report.opening ≡ refused_settings

-- what runs changed, where the names of the window are different
abbrev pub RanOver : Keeping → TriggerSettings → List ℕ
    → Option Reading → List Run → List RunReport → Disk → Disk → Type 0
RanOver keeping trigger path reading runs reports old new =
    IfSome keeping.archives (λ older.
    let window = around older (keeping.waiting path) path in
    AreDistinct (names window)
    → Changed old new (Ran trigger reading window (files_of old) runs reports))

-- a report without an outcome, with room for so many
pub record IsReady (n : ℕ) (report : RunReport) : Type 0 where
  pub outcomes : report.outcomes.items ≡ []
  pub answers : report.answers.items ≡ []
  pub no_outcomes : vec_len report.outcomes ≡ 0
  pub no_answers : vec_len report.answers ≡ 0
  pub room : n ≤ vec_capacity report.outcomes
  pub room_of_answers : n ≤ vec_capacity report.answers
  pub counts : NoCounts report

abbrev pub AreReady : ℕ → List RunReport → Type 0
AreReady n [] = Unit {0}
AreReady n (report ∷ reports) = IsReady n report × AreReady n reports

-- each run has at most so many acts
abbrev pub HaveRoom : ℕ → List Run → Type 0
HaveRoom n [] = Unit {0}
HaveRoom n (run ∷ runs) = (length run.acts.items ≤ n) × HaveRoom n runs
