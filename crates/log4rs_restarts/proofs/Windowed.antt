-- What runs did to a window, by what they did.
use Rattle.std.proofs.Common.{◌≡◌, ◌∙◌, ℕ, List, [], ◌∷◌, ◌++◌, All, Bool, true, false, Option, Some, None, IfSome, IsSome, IsTrue, Result, Ok, Err, inl, inr, map, refl, sym, ap, subst, arith}
use Rattle.std.proofs.lemmas.List.{append-nil, append_cancel_left}
use Rattle.std.proofs.lemmas.List.Elements.{All-head, All-tail}
use Rattle.std.specs.Option.{option_to_list}
use Rattle.log4rs_rolling.specs.Change.{Change, Files, replay}
use Rattle.log4rs_rolling.specs.Disk.{Disk, Calls, files_of}
use Rattle.log4rs_rolling.proofs.Calls.{calls_map, calls_join, calls_none, files_after}
use Rattle.log4rs_rolling.specs.Appends.{Reading}
use Rattle.log4rs_rolling.specs.Keeping.{Keeping, SameNames, Stands}
use Rattle.log4rs_rolling.specs.Roller.{archive_name, fixed_window, vacancy_if}
use Rattle.log4rs_rolling.specs.Window.{Vacant, Window, Vacancy, Anywhere, AreDistinct, around, names}
use Rattle.log4rs_rolling.proofs.Parts.{if_map, stands_on}
use Rattle.log4rs_rolling.proofs.Running.{one_append}
use Rattle.log4rs_rolling.proofs.Stepping.{rest_none}
use Rattle.log4rs_rolling.proofs.Working.{no_step}
use Rattle.log4rs_restarts.specs.Acts.{BuiltIn, ActEffect, AreEffects, AreDone, Follows, FollowsBy, GoOn, VacanciesGo, IsEffect, answers_of, all_changes, asks, at_rest, changes_in, changes_of, vacant_if, RunDone}
use Rattle.log4rs_restarts.specs.ActsDone.{ActDone, ActsDone, DidRun, DidRuns, DoneBy, GoFrom, IsDone, IsNotOfStore, Moment, RunBy, SawStore, answers_in, kept_at}
use Rattle.log4rs_restarts.specs.Runs.{AreRuns, Ran, RanOver}
use Rattle.log4rs_restarts.specs.Stops.{Changed, StopsAt}
use Rattle.log4rs_restarts.specs.Triggers.{Begins}
use Rattle.log4rs_restarts.specs.declared.run.Act.{Act}
use Rattle.log4rs_restarts.specs.declared.run.Act.TheVariants as act
use Rattle.log4rs_restarts.specs.declared.run.ActOutcome.{ActOutcome}
use Rattle.log4rs_restarts.specs.declared.run.ActOutcome.TheVariants as outcome
use Rattle.log4rs_restarts.specs.declared.run.OpeningError.{OpeningError}
use Rattle.log4rs_restarts.specs.declared.run.Run.{Run}
use Rattle.log4rs_restarts.specs.declared.run.RunReport.{RunReport}
use Rattle.log4rs_restarts.specs.declared.settings.TriggerSettings.{TriggerSettings}
use Rattle.log4rs_restarts.proofs.Adding.{ActedIn, ActedOver, ActedTo, act_vacant, append_acted, late_acted, looked_rests, no_job, step_acted}
use Rattle.log4rs_restarts.proofs.Doing.{Done, DoneIn, changed_join, changed_map, changed_none, nothing_done, run_fails, run_goes, starts_as}
use Rattle.log4rs_restarts.proofs.Keeping.{ran}
use Rattle.log4rs_restarts.proofs.Late.{late_limits}
use Rattle.log4rs_restarts.proofs.Stepping.{goes_as}

-- One act

acted_by : (reading : Option Reading) (path : List ℕ) (a : Act) (o : ActOutcome) (answer : Option Bool) (before now : Moment) → DoneBy reading path a o answer before now → FollowsBy a before.trigger answer now.trigger
    → ActedTo (kept_at before) (kept_at now) before.trigger now.trigger reading path a o answer before.disk now.disk
acted_by reading path (act.Append entry) (outcome.Appended result) answer before now done follows =
    append_acted before.roller now.roller before.trigger now.trigger reading path entry result answer before.disk now.disk
    (one_append (asks before.trigger) reading entry.logged entry.context result answer (kept_at before) (kept_at now) path before.disk now.disk (done.answered.kept refl) done.made.adds) done.stays done.answered.whole
    done.grown.segments done.grown.shown follows
acted_by reading path act.Step (outcome.Stepped result) answer before now done follows =
    let made = done.stepped.made refl in
    subst (λ (a : Option Bool). ActedTo (kept_at before) (kept_at now) before.trigger now.trigger reading path act.Step (outcome.Stepped result) a before.disk now.disk) (sym done.unasked)
    (step_acted before.roller now.roller before.trigger now.trigger reading path result before.disk now.disk follows done.stepped.steps made.once
    (λ at_once. no_step (kept_at before) (kept_at now) result before.disk now.disk made (rest_none (archive_name before.roller) before.roller.base before.roller.job (no_job before.roller at_once))))
acted_by reading path (act.Late entry) (outcome.Appended result) answer before now done follows =
    subst (λ (a : Option Bool). ActedTo (kept_at before) (kept_at now) before.trigger now.trigger reading path (act.Late entry) (outcome.Appended result) a before.disk now.disk) (sym done.unasked)
    (late_acted before.roller now.roller before.trigger now.trigger reading path entry result before.disk now.disk follows done.stays done.adds)
acted_by reading path (act.Append entry) (outcome.Stepped result) answer before now done follows = absurd done
acted_by reading path (act.Late entry) (outcome.Stepped result) answer before now done follows = absurd done
acted_by reading path act.Step (outcome.Appended result) answer before now done follows = absurd done

-- the names stay
pub same_names : (reading : Option Reading) (path : List ℕ) (a : Act) (o : ActOutcome) (answer : Option Bool) (before now : Moment) → DoneBy reading path a o answer before now → SameNames (kept_at before) (kept_at now)
same_names reading path (act.Append entry) (outcome.Appended result) answer before now done = done.limited.names
same_names reading path act.Step (outcome.Stepped result) answer before now done = (done.stepped.steps path).names
same_names reading path (act.Late entry) (outcome.Appended result) answer before now done = (late_limits reading path entry result answer before now done).names
same_names reading path (act.Append entry) (outcome.Stepped result) answer before now done = absurd done
same_names reading path (act.Late entry) (outcome.Stepped result) answer before now done = absurd done
same_names reading path act.Step (outcome.Appended result) answer before now done = absurd done

-- Acts, one after another

-- these acts were done in a window, with this trigger at first, and no file stood there
record InOrder (reading : Option Reading) (window : Window) (files : Files) (trigger : BuiltIn) (vacancy : Vacancy) (dones : List ActDone) (added : List Change) : Type 0 where
  pub effects : List ActEffect
  pub all : added ≡ changes_of effects
  pub acted : map (λ (d : ActEffect). d.act) effects ≡ map (λ (d : ActDone). d.act) dones
  pub noted : map (λ (d : ActEffect). d.outcome) effects ≡ map (λ (d : ActDone). d.outcome) dones
  pub said : answers_of effects ≡ answers_in dones
  pub are : AreEffects reading window files effects
  pub goes : GoOn (λ t. t ≡ trigger) effects
  pub vacant : VacanciesGo vacancy effects

-- from a moment on, in a window that stands
abbrev From : Option Reading → List ℕ → List (List ℕ) → Option (List ℕ) → List ActDone → Moment → Moment → Type 0
From reading path older waits dones last first =
    (kept_at first).archives ≡ Some older
    → (kept_at first).waiting path ≡ waits
    → Stands (around older waits path) ((kept_at first).vacant path) first.disk
    → Calls first.disk last.disk (InOrder reading (around older waits path) (files_of first.disk) first.trigger ((kept_at first).vacant path) dones)

in_order : (reading : Option Reading) (path : List ℕ) (older : List (List ℕ)) (waits : Option (List ℕ)) (dones : List ActDone) (first last : Moment) → All (IsDone reading path) dones → GoFrom first dones last
    → From reading path older waits dones last first
in_order reading path older waits [] first last each go =
    λ are waiting stands.
    let w = around older waits path in
    let P : List Change → Type 0 = InOrder reading w (files_of first.disk) first.trigger ((kept_at first).vacant path) [] in
    subst (λ (m : Moment). Calls first.disk m.disk P) (sym go) (calls_none first.disk P (record { effects = []; all = refl; acted = refl; noted = refl; said = refl; are = tt; goes = tt; vacant = tt }))
in_order reading path older waits (d ∷ dones) first last each go =
    subst (From reading path older waits (d ∷ dones) last) go.0
    (λ are waiting stands.
    let w = around older waits path in
    let is = All-head (IsDone reading path) d dones each in
    let k0 = kept_at d.before in
    let k1 = kept_at d.now in
    let v0 = k0.vacant path in
    let v1 = k1.vacant path in
    let d0 = d.before.disk in
    let d1 = d.now.disk in
    let kept = same_names reading path d.act d.outcome d.answer d.before d.now is.0 in
    let One : List (List ℕ) → Option (List ℕ) → Type 0 = λ o u. ActedIn u v0 v1 d.before.trigger d.now.trigger reading path d.act d.outcome d.answer d0 d1 o in
    let acted : One older waits =
    subst (One older) waiting
    (subst (λ (o : Option (List (List ℕ))). IfSome o (λ x. One x (k0.waiting path))) are (acted_by reading path d.act d.outcome d.answer d.before d.now is.0 is.1)) in
    let effect : List Change → ActEffect = λ (added : List Change). record { trigger = d.before.trigger; act = d.act; outcome = d.outcome; answer = d.answer; before = v0; now = v1; added = added } in
    let Here : List Change → Type 0 = λ added. IsEffect reading w (files_of d0) (effect added) × Follows (effect added) d.now.trigger in
    let here : Calls d0 d1 Here = acted stands in
    let Stood : List Change → Type 0 = λ added. Here added × Vacant v0 path (files_of d0) in
    let stood : Calls d0 d1 Stood = calls_map d0 d1 Here Stood here (λ added tells told x. (x, stands.1 tells)) in
    let then : Stands w v1 d1 = stands_on w v0 v1 Stood d0 d1 stands stood (λ added x. act_vacant reading w (files_of d0) d.act d.outcome (effect added) x.0.0 x.1) in
    let rest = in_order reading path older waits dones d.now last (All-tail (IsDone reading path) d dones each) go.1 (kept.archives ∙ are) (ap (λ (f : List ℕ → Option (List ℕ)). f path) kept.waiting ∙ waiting) then in
    calls_join d0 d1 last.disk Here (InOrder reading w (files_of d1) d.now.trigger v1 dones) (InOrder reading w (files_of d0) d.before.trigger v0 (d ∷ dones)) here rest
    (λ xs ys tells told x y.
    record {
      effects = effect xs ∷ y.effects;
      all = ap (λ (c : List Change). xs ++ c) y.all;
      acted = ap (λ (acts : List Act). d.act ∷ acts) y.acted;
      noted = ap (λ (os : List ActOutcome). d.outcome ∷ os) y.noted;
      said = ap (λ (bs : List Bool). option_to_list d.answer ++ bs) y.said;
      are = (x.0, subst (λ (f : Files). AreEffects reading w f y.effects) (files_after d0 d1 xs told) y.are);
      goes = (refl, goes_as (λ t. t ≡ d.now.trigger) (Follows (effect xs)) y.effects (λ t same. subst (Follows (effect xs)) (sym same) x.1) y.goes);
      vacant = (refl, y.vacant);
    }))

-- the acts of a run, before which no rolling went on
acts_over : (reading : Option Reading) (path : List ℕ) (acts : List Act) (outcomes : List ActOutcome) (answers : List Bool) (first last : Moment)
    → (IsSome (kept_at first).archives → (kept_at first).vacant path ≡ vacant_if ((kept_at first).waiting path))
    → ActsDone reading path acts outcomes answers first last → ActedOver (kept_at first) first.trigger reading path acts outcomes answers first.disk last.disk
acts_over reading path acts outcomes answers first last rests done = by (kept_at first).archives refl where
  waits : Option (List ℕ)
  waits = (kept_at first).waiting path

  Acts : List (List ℕ) → Type 0
  Acts older = let w = around older waits path in Stands w (at_rest w) first.disk → Calls first.disk last.disk (AreDone first.trigger reading w (files_of first.disk) acts outcomes answers)

  by : (o : Option (List (List ℕ))) → (kept_at first).archives ≡ o → IfSome o Acts
  by None are = tt
  by (Some older) are = λ stands.
      let w = around older waits path in
      let rest = rests (subst IsSome (sym are) refl) in
      calls_map first.disk last.disk (InOrder reading w (files_of first.disk) first.trigger ((kept_at first).vacant path) done.dones) (AreDone first.trigger reading w (files_of first.disk) acts outcomes answers)
      (in_order reading path older waits done.dones first last done.each done.go are refl (subst (λ (v : Vacancy). Stands w v first.disk) (sym rest) stands))
      (λ added tells told x.
      record {
        effects = x.effects;
        all = x.all;
        acted = x.acted ∙ done.acted;
        noted = done.noted ∙ sym x.noted;
        said = done.said ∙ sym x.said;
        are = x.are;
        goes = x.goes;
        vacant = subst (λ (v : Vacancy). VacanciesGo v x.effects) rest x.vacant;
      })

-- A run

-- a roller that is built in, and that nobody asked
pub record IsFresh (k : Keeping) (path : List ℕ) : Type 0 where
  pub built : IsTrue k.is_built_in
  pub unasked : k.asked ≡ false
  pub anywhere : k.vacant path ≡ Anywhere

pub window_fresh : (name : ℕ → List ℕ) (base count : ℕ) (rename_only background : Bool) (path : List ℕ) → IsFresh (fixed_window name base count rename_only background) path
window_fresh name base count rename_only background path = record { built = refl; unasked = refl; anywhere = by background } where
  by : (b : Bool) → vacancy_if b false name base count None path ≡ Anywhere
  by true = refl
  by false = refl

run_over : (Starts : BuiltIn → Type 0) (reading : Option Reading) (k : Keeping) (path : List ℕ) (acts : List Act) (report : RunReport) (r : Result Unit OpeningError) (d0 d1 : Disk) → report.opening ≡ r → IsFresh k path
    → RunBy r Starts reading k path acts report d0 d1 → IfSome k.archives (DoneIn (k.waiting path) Starts reading path acts report d0 d1)
run_over Starts reading k path acts report (Ok u) d0 d1 is fresh run =
    let first = run.first in
    let waits = k.waiting path in
    let begun = run.opened in
    let rests : IsSome k.archives → (kept_at first).vacant path ≡ vacant_if ((kept_at first).waiting path) = λ some. looked_rests k first.roller path begun.stepped.names some (begun.looked fresh.built) in
    if_map k.archives (DoneIn waits (λ t. t ≡ first.trigger) reading path acts report d0 d1) (DoneIn waits Starts reading path acts report d0 d1)
    (run_goes k (kept_at first) first.trigger first.trigger reading path path acts report report.outcomes.items report.answers.items d0 first.disk run.last.disk d1 fresh.built fresh.unasked fresh.anywhere rests refl refl is refl refl begun
    (begun.shown fresh.built fresh.unasked refl)
    (acts_over reading path acts report.outcomes.items report.answers.items first run.last (λ some. rests (subst IsSome begun.stepped.names.archives some)) run.done) run.closed)
    (λ older p. λ distinct.
    let w = around older waits path in
    changed_map d0 d1 (Done (λ t. t ≡ first.trigger) reading w (files_of d0) acts report) (Done Starts reading w (files_of d0) acts report) (p distinct)
    (λ added done. starts_as (λ t. t ≡ first.trigger) Starts reading w (files_of d0) acts report added (λ t same. subst Starts (sym same) run.begins) done))
run_over Starts reading k path acts report (Err e) d0 d1 is fresh run = run_fails k Starts reading path acts report e d0 run.left d1 fresh.built fresh.unasked fresh.anywhere is run.outcomes run.answers run.tried run.closed

-- a run in a window, and no more changes than its stop allows
abbrev RunIn : Option (List ℕ) → (BuiltIn → Type 0) → Option Reading → List ℕ → Option ℕ → List Act → RunReport → Disk → Disk → List (List ℕ) → Type 0
RunIn waits Starts reading path stop_after acts report d0 d1 older =
    let w = around older waits path in AreDistinct (names w) → Changed d0 d1 (λ added. Done Starts reading w (files_of d0) acts report added × StopsAt stop_after added)

-- as the run saw its store
pub seen_over : (stop_after : Option ℕ) (stopped : ℕ) (d0 seen left d1 : Disk) (P : Files → List Change → Type 0) → SawStore stop_after stopped d0 seen left d1 → Changed seen left (P (files_of seen))
    → Changed d0 d1 (λ added. P (files_of d0) added × StopsAt stop_after added)
seen_over stop_after stopped d0 seen left d1 P saw did =
    record {
      tells = saw.after ∙ did.tells ∙ saw.tells;
      told = λ tells.
          let made = saw.told tells in
          let was = did.told (subst IsTrue (sym saw.tells) tells) in
          let same : was.0 ≡ made.0 = append_cancel_left seen.changes was.0 made.0 (sym was.1.changes ∙ made.1.changes) in
          (made.0, made.2, (subst (λ (f : Files). P f made.0) (saw.files tells) (subst (P (files_of seen)) same was.2), made.3));
    }

stops_none : (stop_after : Option ℕ) → StopsAt stop_after []
stops_none None = tt
stops_none (Some limit) = omega arith

none_over : (waits : Option (List ℕ)) (Starts : BuiltIn → Type 0) (reading : Option Reading) (path : List ℕ) (stop_after : Option ℕ) (acts : List Act) (report : RunReport) (r : Result Unit OpeningError) (disk : Disk) (o : Option (List (List ℕ)))
    → report.opening ≡ r → IsNotOfStore r → report.outcomes.items ≡ [] → report.answers.items ≡ [] → IfSome o (RunIn waits Starts reading path stop_after acts report disk disk)
none_over waits Starts reading path stop_after acts report (Ok u) disk o is why no_outcomes no_answers = absurd why
none_over waits Starts reading path stop_after acts report (Err e) disk o is why no_outcomes no_answers =
    if_map o (DoneIn waits Starts reading path acts report disk disk) (RunIn waits Starts reading path stop_after acts report disk disk) (nothing_done o waits Starts reading path acts report e disk is no_outcomes no_answers)
    (λ older p. λ distinct.
    let was = p distinct in
    record {
      tells = was.tells;
      told = λ tells.
          let x = was.told tells in
          let none : x.0 ≡ [] = append_cancel_left disk.changes x.0 [] (sym x.1.changes ∙ sym (append-nil disk.changes)) in
          (x.0, x.1, (x.2, subst (StopsAt stop_after) (sym none) (stops_none stop_after)));
    })

did_over : (Starts : BuiltIn → Type 0) (reading : Option Reading) (k : Keeping) (path : List ℕ) (stop_after : Option ℕ) (acts : List Act) (report : RunReport) (d0 d1 : Disk) → IsFresh k path
    → DidRun Starts reading k path stop_after acts report d0 d1 → IfSome k.archives (RunIn (k.waiting path) Starts reading path stop_after acts report d0 d1)
did_over Starts reading k path stop_after acts report d0 d1 fresh did =
    let waits = k.waiting path in
    elim did [
      | inl ran ↦
          if_map k.archives (DoneIn waits Starts reading path acts report ran.seen ran.left) (RunIn waits Starts reading path stop_after acts report d0 d1)
          (run_over Starts reading k path acts report report.opening ran.seen ran.left refl fresh ran.run)
          (λ older p. λ distinct.
          let w = around older waits path in
          seen_over stop_after report.stopped d0 ran.seen ran.left d1 (λ files. Done Starts reading w files acts report) ran.store (p distinct))
      | inr none ↦
          subst (λ (d : Disk). IfSome k.archives (RunIn waits Starts reading path stop_after acts report d0 d)) (sym none.same)
          (none_over waits Starts reading path stop_after acts report report.opening d0 k.archives refl none.why none.outcomes none.answers)
    ]

-- Runs

-- these runs were done
record Going (trigger : TriggerSettings) (reading : Option Reading) (window : Window) (files : Files) (runs : List Run) (reports : List RunReport) (added : List Change) : Type 0 where
  pub done : List RunDone
  pub all : added ≡ all_changes done
  pub are : AreRuns trigger reading window files runs reports done

going : (trigger : TriggerSettings) (reading : Option Reading) (k : Keeping) (path : List ℕ) (older : List (List ℕ)) (runs : List Run) (reports : List RunReport) (d0 d1 : Disk) → IsFresh k path → k.archives ≡ Some older → AreDistinct (names (around older (k.waiting path) path))
    → DidRuns (Begins trigger) reading k path runs reports d0 d1 → Changed d0 d1 (Going trigger reading (around older (k.waiting path) path) (files_of d0) runs reports)
going trigger reading k path older [] [] d0 d1 fresh are distinct did =
    let P : List Change → Type 0 = Going trigger reading (around older (k.waiting path) path) (files_of d0) [] [] in
    subst (λ (d : Disk). Changed d0 d P) did (changed_none P d0 (record { done = []; all = refl; are = tt }))
going trigger reading k path older [] (report ∷ reports) d0 d1 fresh are distinct did = absurd did
going trigger reading k path older (run ∷ runs) [] d0 d1 fresh are distinct did = absurd did
going trigger reading k path older (run ∷ runs) (report ∷ reports) d0 d1 fresh are distinct did =
    let left = did.0 in
    let waits = k.waiting path in
    let w = around older waits path in
    let f = files_of d0 in
    let Here : List Change → Type 0 = λ added. Done (Begins trigger) reading w f run.acts.items report added × StopsAt run.stop_after added in
    let one : IfSome (Some older) (RunIn waits (Begins trigger) reading path run.stop_after run.acts.items report d0 left) =
    subst (λ (o : Option (List (List ℕ))). IfSome o (RunIn waits (Begins trigger) reading path run.stop_after run.acts.items report d0 left)) are
    (did_over (Begins trigger) reading k path run.stop_after run.acts.items report d0 left fresh did.1) in
    changed_join d0 left d1 Here (Going trigger reading w (files_of left) runs reports) (Going trigger reading w f (run ∷ runs) (report ∷ reports)) (one distinct)
    (going trigger reading k path older runs reports left d1 fresh are distinct did.2)
    (λ xs ys tells told x y.
    record {
      done = x.0.run ∷ y.done;
      all = ap (λ (c : List Change). c ++ ys) x.0.all ∙ ap (λ (c : List Change). changes_in x.0.run ++ c) y.all;
      are = (x.0.is, subst (StopsAt run.stop_after) x.0.all x.1, subst (λ (g : Files). AreRuns trigger reading w g runs reports y.done) (files_after d0 left xs told ∙ ap (replay f) x.0.all) y.are);
    })

-- what runs did to a window whose names are different
pub runs_over : (trigger : TriggerSettings) (reading : Option Reading) (k : Keeping) (path : List ℕ) (runs : List Run) (reports : List RunReport) (d0 d1 : Disk) → IsFresh k path
    → DidRuns (Begins trigger) reading k path runs reports d0 d1 → RanOver k trigger path reading runs reports d0 d1
runs_over trigger reading k path runs reports d0 d1 fresh did = by k.archives refl where
  waits : Option (List ℕ)
  waits = k.waiting path

  by : (o : Option (List (List ℕ))) → k.archives ≡ o → IfSome o (λ older. let w = around older waits path in AreDistinct (names w) → Changed d0 d1 (Ran trigger reading w (files_of d0) runs reports))
  by None are = tt
  by (Some older) are = λ distinct.
      let w = around older waits path in
      changed_map d0 d1 (Going trigger reading w (files_of d0) runs reports) (Ran trigger reading w (files_of d0) runs reports) (going trigger reading k path older runs reports d0 d1 fresh are distinct did)
      (λ added x. subst (Ran trigger reading w (files_of d0) runs reports) (sym x.all) (ran trigger reading w (files_of d0) runs reports x.done distinct x.are))
