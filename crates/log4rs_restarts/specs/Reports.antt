-- The reports of runs, and the causes of their errors, whatever the names, the window and the
-- store.
use Rattle.std.specs.Prelude.{◌≡◌, ◌≤◌, ◌⊎◌, IsTrue, IsSome, ℕ, List, [], ◌∷◌, Bool, true, false}
use Rattle.std.specs.Prelude.{Option, None, IfErr, is_ok, length}
use Rattle.log4rs_rolling.specs.Disk.{Disk, Grew}
use Rattle.log4rs_rolling.specs.Faults.{MayAnswer}
use Rattle.log4rs_rolling.specs.Appends.{Reading}
use Rattle.log4rs_rolling.specs.Window.{NoCopies}
use Rattle.log4rs_restarts.specs.Failures.{MayFail}
use Rattle.log4rs_restarts.specs.Stops.{Changed, Counts, LetsThrough, Operated, counted}
use Rattle.log4rs_restarts.specs.declared.run.Act.{Act}
use Rattle.log4rs_restarts.specs.declared.run.Act.TheVariants as act
use Rattle.log4rs_restarts.specs.declared.run.ActOutcome.{ActOutcome}
use Rattle.log4rs_restarts.specs.declared.run.ActOutcome.TheVariants.{Appended, Stepped}
use Rattle.log4rs_restarts.specs.declared.run.Run.{Run}
use Rattle.log4rs_restarts.specs.declared.run.RunReport.{RunReport}

-- nothing is counted yet
abbrev pub NoCounts : RunReport → Type 0
NoCounts report = (report.passed ≡ 0) × (report.stopped ≡ 0)

-- what is counted stays
abbrev pub SameCounts : RunReport → RunReport → Type 0
SameCounts before now = (now.passed ≡ before.passed) × (now.stopped ≡ before.stopped)

-- the acts that a run does: none, where the file was not opened
abbrev pub acts_in : Bool → List Act → List Act
acts_in true acts = acts
acts_in false acts = []

-- a fault of an act, in which the count of refusals went from one number to another, has its cause
-- there: of an append this is known where texts are told
abbrev pub HasCause : Option Reading → ℕ → ℕ → ActOutcome → Type 0
HasCause reading before now (Appended outcome) =
    IsSome reading → IfErr outcome (MayAnswer before now)
HasCause reading before now (Stepped outcome) = IfErr outcome (MayAnswer before now)

-- the outcomes of acts, one after another, in which the count of refusals went from one number
-- to another: each fault has its cause in its own act
abbrev pub HaveCauses : Option Reading → ℕ → ℕ → List ActOutcome → Type 0
HaveCauses reading before after [] = before ≡ after
HaveCauses reading before after (outcome ∷ outcomes) =
    (count : ℕ)
    × (before ≤ count)
    × HasCause reading before count outcome
    × HaveCauses reading count after outcomes

-- an outcome of an append for each append, late or not, and one of a step for each step
abbrev pub Answer : List Act → List ActOutcome → Type 0
Answer [] [] = Unit {0}
Answer (act.Append entry ∷ acts) (Appended outcome ∷ outcomes) = Answer acts outcomes
Answer (act.Late entry ∷ acts) (Appended outcome ∷ outcomes) = Answer acts outcomes
Answer (act.Step ∷ acts) (Stepped outcome ∷ outcomes) = Answer acts outcomes
Answer (act.Append entry ∷ acts) (Stepped outcome ∷ outcomes) = ⊥
Answer (act.Late entry ∷ acts) (Stepped outcome ∷ outcomes) = ⊥
Answer (act.Step ∷ acts) (Appended outcome ∷ outcomes) = ⊥
Answer (act ∷ acts) [] = ⊥
Answer [] (outcome ∷ outcomes) = ⊥

-- what a run reports, in which the count of refusals went from one number to another
pub record Reports
    (Refused : Type 0) (reading : Option Reading) (acts : List Act)
    (before after : ℕ) (report : RunReport) : Type 0 where
  -- what was counted when the opening was over
  pub count : ℕ
  pub later : before ≤ count
  pub opening : IfErr report.opening (MayFail Refused before count)
  pub outcomes : HaveCauses reading count after report.outcomes.items
  -- an outcome for each act where the file was opened, and none where it was not
  pub number : length report.outcomes.items ≡ length (acts_in (is_ok report.opening) acts)
  -- each of the kind of its act
  pub kinds : Answer (acts_in (is_ok report.opening) acts) report.outcomes.items
  -- at most one decision of the trigger for each
  pub answers : length report.answers.items ≤ length report.outcomes.items

-- one run of a store, as its report tells
pub record IsReported
    (Refused : Type 0) (reading : Option Reading) (stop_after : Option ℕ)
    (acts : List Act) (report : RunReport) (old new : Disk) : Type 0 where
  -- what the run saw of refusals: those that the store counted, and those of its stop
  pub reports : Reports Refused reading acts old.refusals
      (counted new.refusals report.stopped) report
  pub stops : IsTrue old.tells ⊎ (stop_after ≡ None)
      → Counts stop_after report.passed report.stopped
  -- with a stop, the operations that it let through are those that were made on the store
  pub operations : Operated stop_after report.passed old new
  pub changes : Changed old new (LetsThrough stop_after report.passed)
  -- where the run saw no refusal, it copied nothing
  pub copies : ¬ (Grew old.refusals (counted new.refusals report.stopped))
      → Changed old new NoCopies
  -- the count of a store does not shrink: of a run with a stop this is known where the store tells
  pub later : IsTrue old.tells ⊎ (stop_after ≡ None) → old.refusals ≤ new.refusals

-- all runs of a store, one after another, each with its report
abbrev pub AreReported : Type 0 → Option Reading
    → List Run → List RunReport → Disk → Disk → Type 0
AreReported Refused reading [] [] old new = old ≡ new
AreReported Refused reading (run ∷ runs) (report ∷ reports) old new =
    (left : Disk)
    × IsReported Refused reading run.stop_after run.acts.items report old left
    × AreReported Refused reading runs reports left new
AreReported Refused reading [] (report ∷ reports) old new = ⊥
AreReported Refused reading (run ∷ runs) [] old new = ⊥
