-- The segments that runs with a size trigger leave.
use Rattle.std.specs.Prelude.{◌≡◌, ◌<◌, ◌^◌, ◌-◌, ℕ, List, [], ◌∷◌, ◌++◌, length, Option, None, IfSome, All}
use Rattle.std.specs.Prelude.{IsOk, IsSome}
use Rattle.log4rs_rolling.specs.Change.{Files, replay}
use Rattle.log4rs_rolling.specs.Window.{Window, Vacancy, Vacant, NoGaps}
use Rattle.log4rs_rolling.specs.Appends.{Reading}
use Rattle.log4rs_rolling.specs.Segments.{Segments, add, Shows, ShowsAfter}
use Rattle.log4rs_rolling.specs.SegmentsShown.{ShowsIn, standing}
use Rattle.log4rs_restarts.specs.Acts.{ActEffect, RunDone, changes_before, changes_in}
use Rattle.log4rs_restarts.specs.declared.run.Act.{Act}
use Rattle.log4rs_restarts.specs.declared.run.Act.TheVariants as act
use Rattle.log4rs_restarts.specs.declared.settings.TriggerSettings.{TriggerSettings}
use Rattle.log4rs_restarts.specs.declared.settings.TriggerSettings.TheVariants.{Size, OnStartUp, Time}
use Rattle.log4rs_restarts.specs.declared.run.ActOutcome.{ActOutcome}
use Rattle.log4rs_restarts.specs.declared.run.ActOutcome.TheVariants.{Appended, Stepped}
use Rattle.log4rs_restarts.specs.declared.run.RunReport.{RunReport}

-- the segments with this text behind the open one, however long that is then
abbrev pub lengthened : Segments → List ℕ → Segments
lengthened segments text = record {
  closed = segments.closed;
  current = segments.current ++ text;
}

-- the segments with the text of an act, if it has one: that of a late append closes none
abbrev pub grown : ℕ → Reading → Segments → Act → Segments
grown limit read segments (act.Append entry) =
    add limit segments (read entry.logged entry.context)
grown limit read segments (act.Late entry) =
    lengthened segments (read entry.logged entry.context)
grown limit read segments act.Step = segments

-- and with the texts of these acts
abbrev pub grown_by : ℕ → Reading → Segments → List ActEffect → Segments
grown_by limit read segments [] = segments
grown_by limit read segments (effect ∷ effects) =
    grown_by limit read (grown limit read segments effect.act) effects

-- after an act these names show the segments, with the text of an append
abbrev pub ShowsBy : ℕ → Reading → Segments → List (List ℕ) → List ℕ → Files → Act → Type 0
ShowsBy limit read segments names active files (act.Append entry) =
    ShowsAfter limit segments (read entry.logged entry.context) names active files
ShowsBy limit read segments names active files (act.Late entry) =
    Shows (lengthened segments (read entry.logged entry.context)) names active files
ShowsBy limit read segments names active files act.Step = Shows segments names active files

-- after each of these acts the files show the segments, with its text
abbrev pub EffectsShow : ℕ → Reading → Segments → Window → Files → List ActEffect → Type 0
EffectsShow limit read segments window files [] = Unit {0}
EffectsShow limit read segments window files (effect ∷ effects) =
    ShowsBy limit read segments window.archives window.active (replay files effect.added) effect.act
    × EffectsShow limit read (grown limit read segments effect.act) window
    (replay files effect.added) effects

-- the same in each of these runs
abbrev pub RunsShow : ℕ → Reading → Segments → Window → Files → List RunDone → Type 0
RunsShow limit read segments window files [] = Unit {0}
RunsShow limit read segments window files (run ∷ runs) =
    EffectsShow limit read segments window (replay files (changes_before run)) run.effects
    × RunsShow limit read (grown_by limit read segments run.effects) window
    (replay files (changes_in run)) runs

-- the result of an act is Ok
abbrev pub IsWell : ActOutcome → Type 0
IsWell (Appended outcome) = IsOk outcome
IsWell (Stepped outcome) = IsOk outcome

-- nothing was refused in a run
pub record WentWell (report : RunReport) : Type 0 where
  pub opening : IsOk report.opening
  pub outcomes : All IsWell report.outcomes.items

-- if nothing was refused in runs with a size trigger, and each rotation is made at once, the files
-- show the segments after each act
abbrev pub SegmentsIn : TriggerSettings → Option Reading
    → Window → Files → List RunReport → List RunDone → Type 0
SegmentsIn (Size limit) reading window files reports done =
    IfSome reading (λ read.
    window.waiting ≡ None
    → limit < 2 ^ 64 - 1
    → 0 < length window.archives
    → All WentWell reports
    → (segments : Segments) → Shows segments window.archives window.active files
    → RunsShow limit read segments window files done)
SegmentsIn (OnStartUp min_size) reading window files reports done = Unit {0}
SegmentsIn (Time config) reading window files reports done = Unit {0}

-- after each of these acts the names where a file may stand show the segments
abbrev pub EffectsShowIn : ℕ → Reading → Segments → Window → Files → List ActEffect → Type 0
EffectsShowIn limit read segments window files [] = Unit {0}
EffectsShowIn limit read segments window files (effect ∷ effects) =
    ShowsBy limit read segments (standing window effect.now) window.active (replay files effect.added)
    effect.act
    × EffectsShowIn limit read (grown limit read segments effect.act) window
    (replay files effect.added) effects

-- in each of these runs, as far as each begins without a gap among its archives: the archives show
-- the segments before the first act, and then the same
abbrev pub RunsShowIn : ℕ → Reading → Segments → Window → Files → List RunDone → Type 0
RunsShowIn limit read segments window files [] = Unit {0}
RunsShowIn limit read segments window files (run ∷ runs) =
    NoGaps files window.archives
    → Shows segments window.archives window.active (replay files (changes_before run))
    × EffectsShowIn limit read segments window (replay files (changes_before run)) run.effects
    × RunsShowIn limit read (grown_by limit read segments run.effects) window
    (replay files (changes_in run)) runs

-- if nothing was refused in runs with a size trigger, and rotations go on in the background: the
-- segments that all names showed at the start, but one without a file, are shown after each act
abbrev pub SegmentsBehind : TriggerSettings → Option Reading
    → Window → Files → List RunReport → List RunDone → Type 0
SegmentsBehind (Size limit) reading window files reports done =
    IfSome reading (λ read.
    IsSome window.waiting
    → limit < 2 ^ 64 - 1
    → All WentWell reports
    → (segments : Segments) (first : Vacancy) → Vacant first window.active files
    → ShowsIn segments window first files
    → RunsShowIn limit read segments window files done)
SegmentsBehind (OnStartUp min_size) reading window files reports done = Unit {0}
SegmentsBehind (Time config) reading window files reports done = Unit {0}
