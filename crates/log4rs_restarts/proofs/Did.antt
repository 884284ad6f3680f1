-- What runs did, one act after another.
use Rattle.std.proofs.Common.{◌≡◌, ◌<◌, ◌+◌, ◌∙◌, ℕ, List, [], ◌∷◌, ◌++◌, Bool, IsTrue, Option, Some, None, Result, Ok, Err, IfErr, inl, inr, length, take, get_or, refl, sym, ap, subst, append_assoc}
use Rattle.std.proofs.lemmas.List.{append-nil, append_cancel_left, map-append, take_more}
use Rattle.std.proofs.lemmas.List.Elements.{All-append, All-cons, All-nil}
use Rattle.std.specs.Option.{option_to_list}
use Rattle.log4rs_rolling.specs.Change.{Change, replay}
use Rattle.log4rs_rolling.proofs.Calls.{files_after}
use Rattle.log4rs_rolling.specs.Disk.{Disk, Calls, Does, Told, files_of}
use Rattle.log4rs_base.specs.declared.error.LogError.{LogError}
use Rattle.log4rs_base.specs.declared.record.Context.{Context}
use Rattle.log4rs_base.specs.declared.record.Record.{Record}
use Rattle.log4rs_rolling.specs.Appends.{Failing, FailsBy, Reading}
use Rattle.log4rs_rolling.specs.Asking.{Asking}
use Rattle.log4rs_rolling.specs.AppendResults.{MadeAppend}
use Rattle.log4rs_rolling.specs.Keeping.{Keeping}
use Rattle.log4rs_restarts.specs.ActsDone.{ActDone, ActsDone, DidRun, DidRuns, EachRun, GoFrom, IsDone, Moment, RunBy, SawStore, answers_in, any_fault}
use Rattle.log4rs_restarts.specs.Acts.{BuiltIn}
use Rattle.log4rs_restarts.specs.Triggers.{Begins}
use Rattle.log4rs_restarts.specs.declared.run.OpeningError.{OpeningError}
use Rattle.log4rs_restarts.specs.declared.settings.TriggerSettings.{TriggerSettings}
use Rattle.log4rs_restarts.specs.Stops.{Changed, Start, StopsAt, counted, marked}
use Rattle.log4rs_restarts.specs.declared.run.Act.{Act}
use Rattle.log4rs_restarts.specs.declared.run.ActOutcome.{ActOutcome}
use Rattle.log4rs_restarts.specs.declared.run.Run.{Run}
use Rattle.log4rs_restarts.specs.declared.run.RunReport.{RunReport}
use Rattle.log4rs_restarts.proofs.Doing.{changed_by, changed_join, closed, then_none}

-- Acts

-- texts may fail in any way
by_any : (fails : Failing) (r : Record) (c : Context) (path : List ℕ) (result : Result Unit LogError) (old new : Disk) → IfErr result (FailsBy fails r c path old new) → IfErr result (FailsBy any_fault r c path old new)
by_any fails r c path (Ok u) old new fault = tt
by_any fails r c path (Err e) old new fault = elim fault [
  | inl may ↦ inl may
  | inr own ↦ inr (tt, own.1)
]

pub made_any : (reading : Option Reading) (fails : Failing) (r : Record) (c : Context) (asking : Asking) (k : Keeping) (path : List ℕ) (result : Result Unit LogError) (old new : Disk)
    → MadeAppend reading fails r c asking k path result old new → MadeAppend reading any_fault r c asking k path result old new
made_any reading fails r c asking k path result old new made = record {
  adds = made.adds;
  memory = made.memory;
  copies = made.copies;
  unrefused = made.unrefused;
  fault = made.fault;
  faults = λ told. by_any fails r c path result old new (made.faults told);
  cost = made.cost;
  cause = made.cause;
}

pub acts_none : (reading : Option Reading) (path : List ℕ) (acts : List Act) (outcomes : List ActOutcome) (answers : List Bool) (first : Moment) → outcomes ≡ [] → answers ≡ [] → ActsDone reading path (take 0 acts) outcomes answers first first
acts_none reading path acts outcomes answers first none unsaid = record {
  dones = [];
  acted = refl;
  noted = none;
  said = unsaid;
  each = All-nil (IsDone reading path);
  go = refl;
}

go_more : (first : Moment) (dones : List ActDone) (d : ActDone) → GoFrom first dones d.before → GoFrom first (dones ++ d ∷ []) d.now
go_more first [] d go = (go, refl)
go_more first (x ∷ dones) d go = (go.0, go_more x.now dones d go.1)

answers_more : (dones : List ActDone) (d : ActDone) → answers_in (dones ++ d ∷ []) ≡ answers_in dones ++ option_to_list d.answer
answers_more [] d = append-nil (option_to_list d.answer)
answers_more (x ∷ dones) d = ap (λ (bs : List Bool). option_to_list x.answer ++ bs) (answers_more dones d) ∙ sym (append_assoc (option_to_list x.answer) (answers_in dones) (option_to_list d.answer))

-- one act more
pub acts_more : (reading : Option Reading) (path : List ℕ) (acts : List Act) (i : ℕ) (d : ActDone) (outcomes outcomes2 : List ActOutcome) (answers answers2 : List Bool) (first : Moment)
    → i < length acts → d.act ≡ get_or acts i d.act → outcomes2 ≡ outcomes ++ d.outcome ∷ [] → answers2 ≡ answers ++ option_to_list d.answer
    → IsDone reading path d → ActsDone reading path (take i acts) outcomes answers first d.before → ActsDone reading path (take (i + 1) acts) outcomes2 answers2 first d.now
acts_more reading path acts i d outcomes outcomes2 answers answers2 first below here is said one past = record {
  dones = past.dones ++ d ∷ [];
  acted = map-append (λ (x : ActDone). x.act) past.dones (d ∷ []) ∙ ap (λ (es : List Act). es ++ d.act ∷ []) past.acted ∙ ap (λ (a : Act). take i acts ++ a ∷ []) here ∙ sym (take_more acts i d.act below);
  noted = is ∙ ap (λ (os : List ActOutcome). os ++ d.outcome ∷ []) past.noted ∙ sym (map-append (λ (x : ActDone). x.outcome) past.dones (d ∷ []));
  said = said ∙ ap (λ (bs : List Bool). bs ++ option_to_list d.answer) past.said ∙ sym (answers_more past.dones d);
  each = All-append (IsDone reading path) past.dones (d ∷ []) past.each (All-cons (IsDone reading path) d [] one (All-nil (IsDone reading path)));
  go = go_more first past.dones d past.go;
}

-- Runs

-- a run without a stop
pub saw_itself : (stopped : ℕ) (old new : Disk) → stopped ≡ 0 → Calls old new (λ added. Unit {0}) → SawStore None stopped old old new new
saw_itself stopped old new none calls = record {
  tells = refl;
  before = refl;
  refusals = sym (ap (counted new.refusals) none);
  files = λ tells. refl;
  told = λ tells. let was = calls.told tells in (was.0, was.1, was.1, tt);
  after = refl;
  itself = λ none. (refl, refl);
}

no_stop : (n : ℕ) → Some n ≡ None → ⊥
no_stop n e = cc

-- a run with a stop, of a store that is closed before and after
pub saw_stopped : (limit stopped : ℕ) (m1 m2 : Start) (r1 r2 n1 n2 : ℕ) (d0 d1 d2 d3 : Disk) → r1 ≡ 0 → stopped ≡ r2
    → Does d0 d1 [] d0.refusals None → Calls (marked m1 r1 n1 d1) (marked m2 r2 n2 d2) (λ added. Unit {0}) → Does d2 d3 [] d2.refusals None
    → Changed d0 d3 (StopsAt (Some limit)) → SawStore (Some limit) stopped d0 (marked m1 r1 n1 d1) (marked m2 r2 n2 d2) d3
saw_stopped limit stopped m1 m2 r1 r2 n1 n2 d0 d1 d2 d3 none is opens calls closes stops =
    let first = closed d0 d1 opens in
    let last = closed d2 d3 closes in
    let Same : List Change → List Change → Type 0 = λ (seen added : List Change). added ≡ seen in
    record {
      tells = first.tells;
      before = ap (counted d1.refusals) none ∙ opens.refusals;
      refusals = ap (λ (n : ℕ). counted n r2) (sym closes.refusals) ∙ ap (counted d3.refusals) (sym is);
      files = λ tells. still d0 d1 first tells;
      told = λ tells.
          let tells1 = subst IsTrue (sym first.tells) tells in
          let was = calls.told tells1 in
          let one : Changed d1 d2 (Same was.0) = changed_by m1 m2 r1 r2 n1 n2 d1 d2 (Same was.0) (record { tells = calls.tells; told = λ t. (was.0, was.1, refl) }) in
          let all : Changed d0 d3 (Same was.0) =
          then_none d0 d2 d3 (Same was.0) (changed_join d0 d1 d2 (λ added. added ≡ []) (Same was.0) (Same was.0) first one (λ xs ys t told x y. ap (λ (c : List Change). c ++ ys) x ∙ y)) last in
          let made = all.told tells in
          let bound = stops.told tells in
          let same : bound.0 ≡ made.0 = append_cancel_left d0.changes bound.0 made.0 (sym bound.1.changes ∙ made.1.changes) in
          (was.0, was.1, subst (Told d0 d3) made.2 made.1, subst (StopsAt (Some limit)) (same ∙ made.2) bound.2);
      after = closes.tells;
      itself = λ none. absurd (no_stop limit none);
    } where
      still : (d0 d1 : Disk) → Changed d0 d1 (λ added. added ≡ []) → IsTrue d0.tells → files_of d1 ≡ files_of d0
      still d0 d1 none tells =
          let was = none.told tells in
          files_after d0 d1 was.0 was.1 ∙ ap (replay (files_of d0)) was.2

-- with a trigger that begins as settings say
run_starts : (P Q : BuiltIn → Type 0) (reading : Option Reading) (k : Keeping) (path : List ℕ) (acts : List Act) (report : RunReport) (r : Result Unit OpeningError) (d0 d1 : Disk) → ((t : BuiltIn) → P t → Q t)
    → RunBy r P reading k path acts report d0 d1 → RunBy r Q reading k path acts report d0 d1
run_starts P Q reading k path acts report (Ok u) d0 d1 all run = record {
  first = run.first;
  last = run.last;
  begins = all run.first.trigger run.begins;
  opened = run.opened;
  cost = run.cost;
  done = run.done;
  closed = run.closed;
}
run_starts P Q reading k path acts report (Err e) d0 d1 all run = run

pub did_starts : (P Q : BuiltIn → Type 0) (reading : Option Reading) (k : Keeping) (path : List ℕ) (stop_after : Option ℕ) (acts : List Act) (report : RunReport) (d0 d1 : Disk) → ((t : BuiltIn) → P t → Q t)
    → DidRun P reading k path stop_after acts report d0 d1 → DidRun Q reading k path stop_after acts report d0 d1
did_starts P Q reading k path stop_after acts report d0 d1 all did = elim did [
  | inl ran ↦ inl (record { seen = ran.seen; left = ran.left; store = ran.store; run = run_starts P Q reading k path acts report report.opening ran.seen ran.left all ran.run })
  | inr none ↦ inr none
]

-- the same runs, as the settings tell them
pub did_as : (t0 t1 : TriggerSettings) (reading : Option Reading) (k0 k1 : Keeping) (p0 p1 : List ℕ) (runs : List Run) (reports : List RunReport) (d0 d1 : Disk) → t0 ≡ t1 → k0 ≡ k1 → p0 ≡ p1
    → DidRuns (Begins t0) reading k0 p0 runs reports d0 d1 → DidRuns (Begins t1) reading k1 p1 runs reports d0 d1
did_as t0 t1 reading k0 k1 p0 p1 runs reports d0 d1 same_trigger same_keeping same_path did =
    subst (λ (t : TriggerSettings). DidRuns (Begins t) reading k1 p1 runs reports d0 d1) same_trigger
    (subst (λ (k : Keeping). DidRuns (Begins t0) reading k p1 runs reports d0 d1) same_keeping (subst (λ (p : List ℕ). DidRuns (Begins t0) reading k0 p runs reports d0 d1) same_path did))

-- the chain

pub each_none : (P : Option ℕ → List Act → RunReport → Disk → Disk → Type 0) (runs : List Run) (reports : List RunReport) (disk : Disk) → reports ≡ [] → EachRun P (take 0 runs) reports disk disk
each_none P runs reports disk none = subst (λ (r : List RunReport). EachRun P [] r disk disk) (sym none) refl

push : (P : Option ℕ → List Act → RunReport → Disk → Disk → Type 0) (runs : List Run) (reports : List RunReport) (run : Run) (report : RunReport) (d0 d1 d2 : Disk)
    → EachRun P runs reports d0 d1 → P run.stop_after run.acts.items report d1 d2 → EachRun P (runs ++ run ∷ []) (reports ++ report ∷ []) d0 d2
push P [] [] run report d0 d1 d2 are is = (d2, subst (λ (d : Disk). P run.stop_after run.acts.items report d d2) (sym are) is, refl)
push P [] (p ∷ reports) run report d0 d1 d2 are is = absurd are
push P (r ∷ runs) [] run report d0 d1 d2 are is = absurd are
push P (r ∷ runs) (p ∷ reports) run report d0 d1 d2 are is = (are.0, are.1, push P runs reports run report are.0 d1 d2 are.2 is)

-- one run more
pub each_more : (P : Option ℕ → List Act → RunReport → Disk → Disk → Type 0) (runs : List Run) (i : ℕ) (run : Run) (reports reports2 : List RunReport) (report : RunReport) (d0 d1 d2 : Disk)
    → i < length runs → run ≡ get_or runs i run → reports2 ≡ reports ++ report ∷ []
    → EachRun P (take i runs) reports d0 d1 → P run.stop_after run.acts.items report d1 d2 → EachRun P (take (i + 1) runs) reports2 d0 d2
each_more P runs i run reports reports2 report d0 d1 d2 below here is past one =
    let taken : take i runs ++ run ∷ [] ≡ take (i + 1) runs = ap (λ (r : Run). take i runs ++ r ∷ []) here ∙ sym (take_more runs i run below) in
    subst (λ (r : List Run). EachRun P r reports2 d0 d2) taken
    (subst (λ (r : List RunReport). EachRun P (take i runs ++ run ∷ []) r d0 d2) (sym is) (push P (take i runs) reports run report d0 d1 d2 past one))
