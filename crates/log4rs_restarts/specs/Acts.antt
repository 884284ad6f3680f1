-- The acts of a run, one after another.
use Rattle.std.specs.Prelude.{IfSome, OnOk, IsSome, ◌≡◌, ◌≤◌, ◌<◌, ◌^◌, ◌-◌, ℕ, List, []}
use Rattle.std.specs.Prelude.{◌∷◌, ◌++◌, Bool, true, false, Option, Some, None, Result, length, map}
use Rattle.std.specs.Option.{option_to_list}
use Rattle.log4rs_rolling.specs.Change.{Change, Files, replay, written}
use Rattle.log4rs_base.specs.declared.record.Entry.{Entry}
use Rattle.log4rs_base.specs.declared.error.LogError.{LogError}
use Rattle.log4rs_rolling.specs.declared.store.Open.TheVariants.{Append}
use Rattle.log4rs_rolling.specs.Window.{Window, Vacancy, Anywhere, VacantAt, drops_into}
use Rattle.log4rs_rolling.specs.Keeping.{SteppedIn}
use Rattle.log4rs_rolling.specs.Asking.{Asking, Kind, Untold, BySize, First, Noted, UnlessYes, by_size}
use Rattle.log4rs_rolling.specs.Triggers.{asking_of, limit_of, NotesAny}
use Rattle.log4rs_rolling.specs.declared.trigger.AnyTriggerOf.{AnyTriggerOf}
use Rattle.log4rs_rolling.specs.declared.trigger.SizeTrigger.{SizeTrigger}
use Rattle.log4rs_rolling.specs.Appends.{Reading, asked_behind, OneAppend}
use Rattle.log4rs_rolling.specs.ArchiveEnds.{longer, IsAt}
use Rattle.log4rs_rolling.specs.AppendParts.{WholeBy}
use Rattle.log4rs_rolling.specs.Moves.{MovedAll, each_to_the_older}
use Rattle.log4rs_rolling.specs.RetiredAppends.{AddsRetired}
use Rattle.log4rs_rolling.specs.Segments.{Segments, Shows, ShowsAfter}
use Rattle.log4rs_rolling.specs.SegmentsShown.{ShowsIn, StaysIn, standing}
use Rattle.log4rs_restarts.specs.declared.run.Act.{Act}
use Rattle.log4rs_restarts.specs.declared.run.Act.TheVariants as act
use Rattle.log4rs_restarts.specs.declared.run.ActOutcome.{ActOutcome}
use Rattle.log4rs_restarts.specs.declared.run.ActOutcome.TheVariants.{Appended, Stepped}

-- a trigger of this project
abbrev pub BuiltIn : Type 0
BuiltIn = AnyTriggerOf SizeTrigger

-- when such a trigger is called, and its decisions
abbrev pub asks : BuiltIn → Asking
asks trigger = asking_of (λ (size : SizeTrigger). by_size (limit_of size)) trigger

-- one act: the trigger before it, the act and its result, the decision of the trigger, if that was
-- called, the vacant names before and after, and the changes
pub record ActEffect : Type 0 where
  pub trigger : BuiltIn
  pub act : Act
  pub outcome : ActOutcome
  pub answer : Option Bool
  pub before : Vacancy
  pub now : Vacancy
  pub added : List Change

-- all changes, in order
abbrev pub changes_of : List ActEffect → List Change
changes_of [] = []
changes_of (effect ∷ effects) = effect.added ++ changes_of effects

-- the decisions of the trigger, in order
abbrev pub answers_of : List ActEffect → List Bool
answers_of [] = []
answers_of (effect ∷ effects) = option_to_list effect.answer ++ answers_of effects

-- the segments of a size trigger grow by the text of a record whose append has the result Ok
abbrev pub GrowsBy : Kind → Option Reading → Window → Files → Entry → Result Unit LogError
    → List Change → Type 0
GrowsBy Untold reading window files entry outcome added = Unit {0}
GrowsBy First reading window files entry outcome added = Unit {0}
GrowsBy (BySize limit) reading window files entry outcome added =
    IfSome reading (λ read.
    limit < 2 ^ 64 - 1
    → 0 < length window.archives
    → OnOk outcome
    ((segments : Segments) → Shows segments window.archives window.active files
    → ShowsAfter limit segments (read entry.logged entry.context) window.archives window.active
    (replay files added)))

-- the same of a rotation at once or in the background: the names that may have a file show them
abbrev pub GrowsAt : Kind → Option Reading → Window → Files → Entry → Result Unit LogError
    → ActEffect → Type 0
GrowsAt Untold reading window files entry outcome effect = Unit {0}
GrowsAt First reading window files entry outcome effect = Unit {0}
GrowsAt (BySize limit) reading window files entry outcome effect =
    IfSome reading (λ read.
    limit < 2 ^ 64 - 1
    → OnOk outcome
    ((segments : Segments) → ShowsIn segments window effect.before files
    → ShowsAfter limit segments (read entry.logged entry.context) (standing window effect.now)
    window.active (replay files effect.added)))

-- all changes of an append with the result Ok: the trigger was called and decided as it does, the
-- file was opened and written to, and moved away if the trigger fired
abbrev pub ChangedBy : Option Reading → Window → Files → Entry → Result Unit LogError
    → ActEffect → Type 0
ChangedBy reading window files entry outcome effect =
    IfSome reading (λ read.
    OnOk outcome
    (IsSome effect.answer
    × WholeBy (asks effect.trigger).kind window.active Append (read entry.logged entry.context)
    (asks effect.trigger) entry.context effect.answer
    (λ now. MovedAll now (each_to_the_older (window.archives ++ window.active ∷ [])))
    files effect.added))

-- an append, on these files
pub record IsAppend
    (reading : Option Reading) (window : Window) (files : Files)
    (entry : Entry) (outcome : Result Unit LogError) (effect : ActEffect) : Type 0 where
  pub does : OneAppend (asks effect.trigger) reading entry.logged entry.context outcome effect.answer
      effect.before effect.now window files effect.added
  -- unless the trigger fires, the vacant name stays
  pub stays : UnlessYes effect.answer (effect.now ≡ effect.before)
  -- if rotations are made at once: all its changes, and what becomes of the segments
  pub whole : window.waiting ≡ None → ChangedBy reading window files entry outcome effect
  pub grows : window.waiting ≡ None
      → GrowsBy (asks effect.trigger).kind reading window files entry outcome effect.added
  -- and in the background too: what becomes of the segments
  pub shows : GrowsAt (asks effect.trigger).kind reading window files entry outcome effect

-- a late append, on any files
pub record IsLate
    (reading : Option Reading) (window : Window)
    (entry : Entry) (outcome : Result Unit LogError) (effect : ActEffect) : Type 0 where
  -- the file is opened in append mode, and the record is written to its end, whole if the result is
  -- Ok; nothing else is done
  pub adds : AddsRetired reading entry.logged entry.context window.active outcome effect.added
  -- no trigger is called, and the vacant name stays
  pub unasked : effect.answer ≡ None
  pub stays : effect.now ≡ effect.before

-- a step of a rotation in the background, on these files
pub record IsStep (window : Window) (files : Files) (effect : ActEffect) : Type 0 where
  pub does : SteppedIn effect.before effect.now window files effect.added
  -- from then on no more archives are to be dropped than before
  pub fewer : drops_into effect.now ≤ drops_into effect.before
  -- the segments that were shown still are
  pub shown : StaysIn effect.before effect.now window files effect.added
  -- no trigger is called
  pub unasked : effect.answer ≡ None
  -- it has at most one change, and none if rotations are made at once
  pub once : length effect.added ≤ 1
  pub idle : window.waiting ≡ None → effect.added ≡ []

-- one act, on these files, with an outcome of its own kind
abbrev pub IsBy : Option Reading → Window → Files → Act → ActOutcome → ActEffect → Type 0
IsBy reading window files (act.Append entry) (Appended outcome) effect =
    IsAppend reading window files entry outcome effect
IsBy reading window files (act.Append entry) (Stepped outcome) effect = ⊥
IsBy reading window files (act.Late entry) (Appended outcome) effect =
    IsLate reading window entry outcome effect
IsBy reading window files (act.Late entry) (Stepped outcome) effect = ⊥
IsBy reading window files act.Step (Appended outcome) effect = ⊥
IsBy reading window files act.Step (Stepped outcome) effect = IsStep window files effect

abbrev pub IsEffect : Option Reading → Window → Files → ActEffect → Type 0
IsEffect reading window files effect = IsBy reading window files effect.act effect.outcome effect

-- each is an act, on the files that the ones before left
abbrev pub AreEffects : Option Reading → Window → Files → List ActEffect → Type 0
AreEffects reading window files [] = Unit {0}
AreEffects reading window files (effect ∷ effects) =
    IsEffect reading window files effect × AreEffects reading window (replay files effect.added) effects

-- a trigger after an act: unchanged if it was not called, and else as its kind goes on
abbrev pub FollowsBy : Act → BuiltIn → Option Bool → BuiltIn → Type 0
FollowsBy (act.Append entry) trigger answer now =
    Noted
    (NotesAny (λ c (before : SizeTrigger) answer (after : SizeTrigger). after ≡ before)
    entry.context)
    trigger answer now
FollowsBy (act.Late entry) trigger answer now = now ≡ trigger
FollowsBy act.Step trigger answer now = now ≡ trigger

abbrev pub Follows : ActEffect → BuiltIn → Type 0
Follows effect now = FollowsBy effect.act effect.trigger effect.answer now

-- the first trigger is such a one, and each later one is what the act before left
abbrev pub GoOn : (BuiltIn → Type 0) → List ActEffect → Type 0
GoOn Begins [] = Unit {0}
GoOn Begins (effect ∷ effects) = Begins effect.trigger × GoOn (Follows effect) effects

-- the vacant name before the first act, and before each later one as the act before left it
abbrev pub VacanciesGo : Vacancy → List ActEffect → Type 0
VacanciesGo first [] = Unit {0}
VacanciesGo first (effect ∷ effects) = (effect.before ≡ first) × VacanciesGo effect.now effects

-- the vacant name while no rotation goes on: the one under which a file waits
abbrev pub vacant_if : Option (List ℕ) → Vacancy
vacant_if None = Anywhere
vacant_if (Some name) = VacantAt name

abbrev pub at_rest : Window → Vacancy
at_rest window = vacant_if window.waiting

-- a firing at this place is a cut
abbrev pub cut_by : Option Bool → ℕ → List ℕ
cut_by (Some true) place = place ∷ []
cut_by (Some false) place = []
cut_by None place = []

-- the length of the stream when an act's trigger was called, and after the act
abbrev pub asked_at : List ℕ → ℕ → ActEffect → ℕ
asked_at active at effect =
    longer (asked_behind (asks effect.trigger).kind (written active effect.added)) at

abbrev pub length_after : List ℕ → ℕ → ActEffect → ℕ
length_after active at effect = longer (written active effect.added) at

-- the lengths of the stream at which the trigger fired
abbrev pub cuts_of : List ℕ → ℕ → List ActEffect → List ℕ
cuts_of active at [] = []
cuts_of active at (effect ∷ effects) =
    cut_by effect.answer (asked_at active at effect)
    ++ cuts_of active (length_after active at effect) effects

-- all these cuts are among the places
abbrev pub AreAmong : List ℕ → List ℕ → Type 0
AreAmong places [] = Unit {0}
AreAmong places (cut ∷ cuts) = IsAt places cut 0 × AreAmong places cuts

-- these acts were done with this trigger, each once and in order, with these results and decisions
pub record AreDone
    (first : BuiltIn) (reading : Option Reading) (window : Window) (files : Files)
    (acts : List Act) (outcomes : List ActOutcome)
    (answers : List Bool) (added : List Change) : Type 0 where
  pub effects : List ActEffect
  pub all : added ≡ changes_of effects
  pub acted : map (λ (d : ActEffect). d.act) effects ≡ acts
  pub noted : outcomes ≡ map (λ (d : ActEffect). d.outcome) effects
  pub said : answers ≡ answers_of effects
  pub are : AreEffects reading window files effects
  pub goes : GoOn (λ trigger. trigger ≡ first) effects
  pub vacant : VacanciesGo (at_rest window) effects

-- one run: what was done about a rotation that an earlier run left, and the vacant name then; the
-- changes of the opening of the file; and the acts
pub record RunDone : Type 0 where
  pub asked : List Change
  pub vacancy : Vacancy
  pub opening : List Change
  pub effects : List ActEffect

-- what a run changed before its acts
abbrev pub changes_before : RunDone → List Change
changes_before run = run.asked ++ run.opening

-- what a run changed
abbrev pub changes_in : RunDone → List Change
changes_in run = changes_before run ++ changes_of run.effects

-- what all runs changed
abbrev pub all_changes : List RunDone → List Change
all_changes [] = []
all_changes (run ∷ runs) = changes_in run ++ all_changes runs
