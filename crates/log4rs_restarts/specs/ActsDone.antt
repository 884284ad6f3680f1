-- What runs did, as the contracts of an opening, of an append and of a step say it, whatever the
-- names, the window and the store.
use Rattle.std.specs.Prelude.{◌≡◌, ◌⊎◌, List, [], ◌∷◌, ◌++◌, ℕ, Bool, true, All, map, Option, None, IsTrue}
use Rattle.std.specs.Prelude.{◌+◌, Result, Ok, Err, IfErr, OnOk}
use Rattle.log4rs_rolling.specs.Change.{Change}
use Rattle.log4rs_rolling.specs.Disk.{Calls, Disk, Does, Told, files_of}
use Rattle.log4rs_base.specs.declared.error.LogError.{LogError}
use Rattle.log4rs_base.specs.declared.record.Entry.{Entry}
use Rattle.log4rs_rolling.specs.declared.store.Open.TheVariants.{Append}
use Rattle.log4rs_rolling.specs.AppendResults.{AnsweredAppend}
use Rattle.log4rs_append.specs.PlainFile.{IsShut}
use Rattle.log4rs_rolling.specs.Appends.{CostsText, Failing, Reading}
use Rattle.log4rs_rolling.specs.Asking.{UnlessYes}
use Rattle.log4rs_rolling.specs.AtOpening.{AskedThenOpened, AskedThenTried, opening_cost}
use Rattle.log4rs_rolling.specs.Costs.{Makes}
use Rattle.log4rs_rolling.specs.AppendResults.{GrownAppend, LimitedAppend, MadeAppend}
use Rattle.log4rs_rolling.specs.Keeping.{Keeping}
use Rattle.log4rs_rolling.specs.RetiredAppends.{AddsRetired, FailsRetired}
use Rattle.log4rs_rolling.specs.Roller.{kept_by}
use Rattle.log4rs_rolling.specs.Background.{Stepped}
use Rattle.log4rs_rolling.specs.declared.fixed_window.FixedWindowRoller.{FixedWindowRoller}
use Rattle.log4rs_restarts.specs.Acts.{BuiltIn, FollowsBy, asks}
use Rattle.log4rs_restarts.specs.Failures.{MayFail}
use Rattle.log4rs_restarts.specs.Stops.{StopsAt, counted}
use Rattle.log4rs_restarts.specs.declared.run.Act.{Act}
use Rattle.log4rs_restarts.specs.declared.run.Act.TheVariants as act
use Rattle.log4rs_restarts.specs.declared.run.ActOutcome.{ActOutcome}
use Rattle.log4rs_restarts.specs.declared.run.ActOutcome.TheVariants as outcome
use Rattle.log4rs_restarts.specs.declared.run.OpeningError.{OpeningError}
use Rattle.log4rs_restarts.specs.declared.run.OpeningError.TheVariants as error
use Rattle.log4rs_restarts.specs.declared.run.Run.{Run}
use Rattle.log4rs_restarts.specs.declared.run.RunReport.{RunReport}
use Rattle.std.specs.Option.{option_to_list}

-- the state between two acts: the trigger, the roller, and what the store shows
pub record Moment : Type 0 where
  pub trigger : BuiltIn
  pub roller : FixedWindowRoller
  pub disk : Disk

-- what its roller keeps
abbrev pub kept_at : Moment → Keeping
kept_at moment = kept_by moment.roller

-- one act between two moments, its result, and the decision of the trigger, if that was called
pub record ActDone : Type 0 where
  pub act : Act
  pub outcome : ActOutcome
  pub answer : Option Bool
  pub before : Moment
  pub now : Moment

-- how texts are made may fail in any way
abbrev pub any_fault : Failing
any_fault = λ r c fault. Unit {0}

-- an append: what the contract of `append` says
pub record AppendDone
    (reading : Option Reading) (path : List ℕ) (entry : Entry) (result : Result Unit LogError)
    (answer : Option Bool) (before now : Moment) : Type 0 where
  pub answered : AnsweredAppend reading entry.logged entry.context (asks before.trigger) answer
      (kept_at before) (kept_at now) true path result before.disk now.disk
  pub limited : LimitedAppend (kept_at before) (kept_at now) path Append before.disk now.disk
  pub made : MadeAppend reading any_fault entry.logged entry.context (asks before.trigger)
      (kept_at before) path result before.disk now.disk
  -- unless the trigger fires, the roller is unchanged
  pub stays : UnlessYes answer (now.roller ≡ before.roller)
  pub grown : GrownAppend reading entry.logged entry.context (asks before.trigger)
      (kept_at before) (kept_at now) path result before.disk now.disk

-- a late append: what the contract of `append_retired` says; no trigger is called
pub record LateDone
    (reading : Option Reading) (path : List ℕ) (entry : Entry) (result : Result Unit LogError)
    (answer : Option Bool) (before now : Moment) : Type 0 where
  pub adds : Calls before.disk now.disk
      (AddsRetired reading entry.logged entry.context path result)
  pub unrefused : OnOk result (now.disk.refusals ≡ before.disk.refusals)
  pub faults : IfErr result (FailsRetired reading any_fault entry.logged entry.context
      before.disk now.disk (now.disk ≡ before.disk))
  -- no file is open then, unless nothing was done
  pub closed : IsShut now.disk ⊎ (now.disk ≡ before.disk)
  pub cost : CostsText reading entry.logged entry.context 1 result before.disk now.disk
  -- nothing is rolled
  pub stays : now.roller ≡ before.roller
  pub unasked : answer ≡ None

-- a step: what the contract of `step` says; no trigger is called
pub record StepDone
    (result : Result Bool LogError) (answer : Option Bool) (before now : Moment) : Type 0 where
  pub stepped : Stepped (kept_at before) (kept_at now) result before.disk now.disk
  pub unasked : answer ≡ None

-- an act with an outcome of its own kind
abbrev pub DoneBy : Option Reading → List ℕ → Act → ActOutcome → Option Bool → Moment → Moment
    → Type 0
DoneBy reading path (act.Append entry) (outcome.Appended result) answer before now =
    AppendDone reading path entry result answer before now
DoneBy reading path (act.Late entry) (outcome.Appended result) answer before now =
    LateDone reading path entry result answer before now
DoneBy reading path act.Step (outcome.Stepped result) answer before now =
    StepDone result answer before now
DoneBy reading path (act.Append entry) (outcome.Stepped result) answer before now = ⊥
DoneBy reading path (act.Late entry) (outcome.Stepped result) answer before now = ⊥
DoneBy reading path act.Step (outcome.Appended result) answer before now = ⊥

-- an act of a run, after which the trigger goes on as its kind does
abbrev pub IsDone : Option Reading → List ℕ → ActDone → Type 0
IsDone reading path done =
    DoneBy reading path done.act done.outcome done.answer done.before done.now
    × FollowsBy done.act done.before.trigger done.answer done.now.trigger

-- each act begins where the one before ended
abbrev pub GoFrom : Moment → List ActDone → Moment → Type 0
GoFrom first [] last = last ≡ first
GoFrom first (done ∷ dones) last = (done.before ≡ first) × GoFrom done.now dones last

-- the decisions of the trigger, in order
abbrev pub answers_in : List ActDone → List Bool
answers_in [] = []
answers_in (done ∷ dones) = option_to_list done.answer ++ answers_in dones

-- these acts were done, each once and in order, with these results and decisions
pub record ActsDone
    (reading : Option Reading) (path : List ℕ) (acts : List Act) (outcomes : List ActOutcome)
    (answers : List Bool) (first last : Moment) : Type 0 where
  pub dones : List ActDone
  pub acted : map (λ (d : ActDone). d.act) dones ≡ acts
  pub noted : outcomes ≡ map (λ (d : ActDone). d.outcome) dones
  pub said : answers ≡ answers_in dones
  pub each : All (IsDone reading path) dones
  pub go : GoFrom first dones last

-- a run that opened its file: what the contract of an opening says, then the acts, and the store is
-- closed
pub record OpenedRun
    (Starts : BuiltIn → Type 0) (reading : Option Reading) (keeping : Keeping) (path : List ℕ)
    (acts : List Act) (report : RunReport) (old new : Disk) : Type 0 where
  pub first : Moment
  pub last : Moment
  pub begins : Starts first.trigger
  pub opened : AskedThenOpened keeping (kept_at first) path true old first.disk
  -- one operation for the folder
  pub cost : Makes (opening_cost keeping + 1) old first.disk
  pub done : ActsDone reading path acts report.outcomes.items report.answers.items first last
  pub closed : Does last.disk new [] last.disk.refusals None

-- a run that did not open its file: what was done till then, and why; and the store is closed
pub record TriedRun
    (keeping : Keeping) (path : List ℕ) (error : OpeningError) (report : RunReport)
    (old new : Disk) : Type 0 where
  pub left : Disk
  pub tried : AskedThenTried keeping path true old left
  pub cost : Makes (opening_cost keeping + 1) old left
  pub cause : MayFail ⊥ old.refusals left.refusals error
  pub closed : Does left new [] left.refusals None
  pub outcomes : report.outcomes.items ≡ []
  pub answers : report.answers.items ≡ []

-- a run, as its report says whether it opened its file
abbrev pub RunBy : Result Unit OpeningError → (BuiltIn → Type 0) → Option Reading → Keeping
    → List ℕ → List Act → RunReport → Disk → Disk → Type 0
RunBy (Ok u) Starts reading keeping path acts report old new =
    OpenedRun Starts reading keeping path acts report old new
RunBy (Err error) Starts reading keeping path acts report old new =
    TriedRun keeping path error report old new

-- how a run saw its store: one without a stop, as it is; one with a stop, with the same files and
-- the refusals of its stop, of which there were so many; each change that it saw was made, and no
-- more than its stop allows
pub record SawStore
    (stop_after : Option ℕ) (stopped : ℕ) (old seen left new : Disk) : Type 0 where
  pub tells : seen.tells ≡ old.tells
  pub before : seen.refusals ≡ old.refusals
  pub refusals : left.refusals ≡ counted new.refusals stopped
  pub files : IsTrue old.tells → files_of seen ≡ files_of old
  pub told : IsTrue old.tells
      → (added : List Change)
      × Told seen left added
      × Told old new added
      × StopsAt stop_after added
  pub after : new.tells ≡ left.tells
  pub itself : stop_after ≡ None → (seen ≡ old) × (left ≡ new)

-- a run over the store as it saw it
pub record RunSeen
    (Starts : BuiltIn → Type 0) (reading : Option Reading) (keeping : Keeping) (path : List ℕ)
    (stop_after : Option ℕ) (acts : List Act) (report : RunReport) (old new : Disk)
    : Type 0 where
  pub seen : Disk
  pub left : Disk
  pub store : SawStore stop_after report.stopped old seen left new
  pub run : RunBy report.opening Starts reading keeping path acts report seen left

-- not opened because of the settings or a failed allocation
abbrev pub IsNotOfStore : Result Unit OpeningError → Type 0
IsNotOfStore (Ok u) = ⊥
IsNotOfStore (Err error.Settings) = Unit {0}
IsNotOfStore (Err error.Store) = ⊥
IsNotOfStore (Err error.Memory) = Unit {0}

-- a run that did nothing
pub record NoRun (report : RunReport) (old new : Disk) : Type 0 where
  pub why : IsNotOfStore report.opening
  pub outcomes : report.outcomes.items ≡ []
  pub answers : report.answers.items ≡ []
  pub same : new ≡ old

-- what a run did: nothing, if its settings were refused or an allocation failed at once
abbrev pub DidRun : (BuiltIn → Type 0) → Option Reading → Keeping → List ℕ → Option ℕ → List Act
    → RunReport → Disk → Disk → Type 0
DidRun Starts reading keeping path stop_after acts report old new =
    RunSeen Starts reading keeping path stop_after acts report old new ⊎ NoRun report old new

-- P holds of each of these runs and its report, one after another over one store
abbrev pub EachRun : (Option ℕ → List Act → RunReport → Disk → Disk → Type 0)
    → List Run → List RunReport → Disk → Disk → Type 0
EachRun P [] [] old new = old ≡ new
EachRun P (run ∷ runs) (report ∷ reports) old new =
    (left : Disk)
    × P run.stop_after run.acts.items report old left
    × EachRun P runs reports left new
EachRun P [] (report ∷ reports) old new = ⊥
EachRun P (run ∷ runs) [] old new = ⊥

-- what all runs did
abbrev pub DidRuns : (BuiltIn → Type 0) → Option Reading → Keeping → List ℕ
    → List Run → List RunReport → Disk → Disk → Type 0
DidRuns Starts reading keeping path runs reports old new =
    EachRun (DidRun Starts reading keeping path) runs reports old new
