-- What runs spare, and what they report, by what they did.
use Rattle.std.proofs.Common.{◌≡◌, ◌≤◌, ◌∙◌, ℕ, suc, List, [], ◌∷◌, All, Bool, true, Option, None, IsTrue, Result, Ok, Err, inl, inr, ◌+◌, map, length, refl, sym, ap, subst, arith}
use Rattle.std.proofs.lemmas.List.{length-append}
use Rattle.std.proofs.lemmas.List.Elements.{All-head, All-tail}
use Rattle.std.specs.Option.{option_to_list}
use Rattle.log4rs_rolling.specs.Change.{Change}
use Rattle.log4rs_rolling.specs.Disk.{Disk, Calls, Does, Grew}
use Rattle.log4rs_rolling.proofs.Calls.{calls_join, calls_none}
use Rattle.log4rs_append.proofs.Beginning.{began_calls}
use Rattle.log4rs_rolling.specs.Appends.{Reading}
use Rattle.log4rs_rolling.specs.Copies.{CopiesNeedRefusal}
use Rattle.log4rs_rolling.specs.Keeping.{Keeping}
use Rattle.log4rs_rolling.specs.Window.{NoCopies}
use Rattle.log4rs_rolling.proofs.Copying.{copies_join}
use Rattle.log4rs_rolling.proofs.Parts.{appended_clean}
use Rattle.log4rs_rolling.specs.declared.store.Open.TheVariants.{Append}
use Rattle.log4rs_restarts.specs.Acts.{BuiltIn}
use Rattle.log4rs_restarts.specs.ActsDone.{ActDone, DidRun, DidRuns, DoneBy, GoFrom, IsDone, Moment, RunBy, answers_in, any_fault, kept_at}
use Rattle.log4rs_restarts.specs.Reports.{Answer, HasCause, HaveCauses, IsReported, NoCounts, Reports}
use Rattle.log4rs_restarts.specs.Stops.{Changed, StopsAt}
use Rattle.log4rs_restarts.specs.declared.run.Act.{Act}
use Rattle.log4rs_restarts.specs.declared.run.Act.TheVariants as act
use Rattle.log4rs_restarts.specs.declared.run.ActOutcome.{ActOutcome}
use Rattle.log4rs_restarts.specs.declared.run.ActOutcome.TheVariants as outcome
use Rattle.log4rs_restarts.specs.declared.run.OpeningError.{OpeningError}
use Rattle.log4rs_restarts.specs.declared.run.Run.{Run}
use Rattle.log4rs_restarts.specs.declared.run.RunReport.{RunReport}
use Rattle.log4rs_restarts.proofs.Doing.{calls_changed, calls_clean, changed_map, changed_none, clean_join, closes_any, closes_clean}
use Rattle.log4rs_restarts.proofs.Late.{late_fault, late_limits, only_appends}
use Rattle.log4rs_restarts.proofs.Opening.{began_clean, began_copies, tried_calls, tried_clean, tried_copies}
use Rattle.log4rs_restarts.proofs.Reporting.{at_most_one, reports_fails, reports_goes, uncounted}
use Rattle.log4rs_restarts.proofs.Stepping.{asks_told}
use Rattle.log4rs_restarts.proofs.Windowed.{same_names, seen_over}

-- What is not copied

-- nothing is copied where files are only renamed, nor before something is refused
pub record Spared (renames : Bool) (old new : Disk) : Type 0 where
  pub clean : IsTrue renames → Calls old new NoCopies
  pub copies : CopiesNeedRefusal old new
  pub store : Calls old new (λ added. Unit {0})

spared_none : (renames : Bool) (d : Disk) → Spared renames d d
spared_none renames d = record { clean = λ only. calls_none d NoCopies tt; copies = λ none. calls_none d NoCopies tt; store = calls_none d (λ added. Unit {0}) tt }

spared_join : (r0 r1 : Bool) (d0 d1 d2 : Disk) → r1 ≡ r0 → Spared r0 d0 d1 → Spared r1 d1 d2 → Spared r0 d0 d2
spared_join r0 r1 d0 d1 d2 same before now = record {
  clean = λ only. calls_clean d0 d1 d2 (before.clean only) (now.clean (subst IsTrue (sym same) only));
  copies = copies_join (λ _. Unit {0}) (λ _. Unit {0}) d0 d1 d2 before.store now.store before.copies now.copies;
  store = calls_join d0 d1 d2 (λ _. Unit {0}) (λ _. Unit {0}) (λ _. Unit {0}) before.store now.store (λ xs ys tells told x y. tt);
}

spared_closed : (renames : Bool) (d0 d1 d2 : Disk) → Spared renames d0 d1 → Does d1 d2 [] d1.refusals None → Spared renames d0 d2
spared_closed renames d0 d1 d2 spared closes = record {
  clean = λ only. closes_clean d0 d1 d2 (spared.clean only) closes;
  copies = λ none. closes_clean d0 d1 d2 (spared.copies (λ grew. none (subst (Grew d0.refusals) (sym closes.refusals) grew))) closes;
  store = closes_any d0 d1 d2 (λ _. Unit {0}) spared.store closes;
}

act_spares : (reading : Option Reading) (path : List ℕ) (a : Act) (o : ActOutcome) (answer : Option Bool) (before now : Moment) → DoneBy reading path a o answer before now → Spared (kept_at before).renames before.disk now.disk
act_spares reading path (act.Append entry) (outcome.Appended result) answer before now done = record { clean = done.limited.renames; copies = done.made.copies; store = done.limited.store }
act_spares reading path act.Step (outcome.Stepped result) answer before now done = let steps = done.stepped.steps path in record { clean = steps.renames; copies = steps.copies refl; store = steps.store }
act_spares reading path (act.Late entry) (outcome.Appended result) answer before now done =
    let clean = appended_clean path Append before.disk now.disk (only_appends reading entry.logged entry.context path result before.disk now.disk done.adds) in
    record { clean = λ only. clean; copies = λ none. clean; store = (late_limits reading path entry result answer before now done).store }
act_spares reading path (act.Append entry) (outcome.Stepped result) answer before now done = absurd done
act_spares reading path (act.Late entry) (outcome.Stepped result) answer before now done = absurd done
act_spares reading path act.Step (outcome.Appended result) answer before now done = absurd done

acts_spare : (reading : Option Reading) (path : List ℕ) (dones : List ActDone) (first last : Moment) → All (IsDone reading path) dones → GoFrom first dones last → Spared (kept_at first).renames first.disk last.disk
acts_spare reading path [] first last each go = subst (λ (m : Moment). Spared (kept_at first).renames first.disk m.disk) (sym go) (spared_none (kept_at first).renames first.disk)
acts_spare reading path (d ∷ dones) first last each go =
    let is = All-head (IsDone reading path) d dones each in
    subst (λ (m : Moment). Spared (kept_at m).renames m.disk last.disk) go.0
    (spared_join (kept_at d.before).renames (kept_at d.now).renames d.before.disk d.now.disk last.disk (same_names reading path d.act d.outcome d.answer d.before d.now is.0).renames
    (act_spares reading path d.act d.outcome d.answer d.before d.now is.0) (acts_spare reading path dones d.now last (All-tail (IsDone reading path) d dones each) go.1))

pub run_spares : (Starts : BuiltIn → Type 0) (reading : Option Reading) (k : Keeping) (path : List ℕ) (acts : List Act) (report : RunReport) (r : Result Unit OpeningError) (d0 d1 : Disk) → IsTrue k.is_built_in
    → RunBy r Starts reading k path acts report d0 d1 → Spared k.renames d0 d1
run_spares Starts reading k path acts report (Ok u) d0 d1 built run =
    let first = run.first in
    let last = run.last in
    let k1 = kept_at first in
    spared_closed k.renames d0 last.disk d1
    (spared_join k.renames k1.renames d0 first.disk last.disk run.opened.stepped.names.renames
    (record {
      clean = began_clean k k1 path true d0 first.disk run.opened;
      copies = began_copies k k1 path true d0 first.disk run.opened built;
      store = began_calls k k1 path true d0 first.disk run.opened;
    })
    (acts_spare reading path run.done.dones first last run.done.each run.done.go))
    run.closed
run_spares Starts reading k path acts report (Err e) d0 d1 built run =
    spared_closed k.renames d0 run.left d1
    (record { clean = tried_clean k path true d0 run.left run.tried; copies = tried_copies k path true d0 run.left run.tried built; store = tried_calls k path true d0 run.left run.tried }) run.closed

-- no run copies, where files are only renamed
pub runs_spare : (Starts : BuiltIn → Type 0) (reading : Option Reading) (k : Keeping) (path : List ℕ) (runs : List Run) (reports : List RunReport) (d0 d1 : Disk) → IsTrue k.is_built_in → IsTrue k.renames
    → DidRuns Starts reading k path runs reports d0 d1 → Changed d0 d1 NoCopies
runs_spare Starts reading k path [] [] d0 d1 built only did = subst (λ (d : Disk). Changed d0 d NoCopies) did (changed_none NoCopies d0 tt)
runs_spare Starts reading k path [] (report ∷ reports) d0 d1 built only did = absurd did
runs_spare Starts reading k path (run ∷ runs) [] d0 d1 built only did = absurd did
runs_spare Starts reading k path (run ∷ runs) (report ∷ reports) d0 d1 built only did = clean_join d0 did.0 d1 (one did.1) (runs_spare Starts reading k path runs reports did.0 d1 built only did.2) where
  one : DidRun Starts reading k path run.stop_after run.acts.items report d0 did.0 → Changed d0 did.0 NoCopies
  one ran = elim ran [
    | inl seen ↦
        changed_map d0 did.0 (λ added. NoCopies added × StopsAt run.stop_after added) NoCopies
        (seen_over run.stop_after report.stopped d0 seen.seen seen.left did.0 (λ files added. NoCopies added) seen.store
        (calls_changed seen.seen seen.left NoCopies ((run_spares Starts reading k path run.acts.items report report.opening seen.seen seen.left built seen.run).clean only)))
        (λ added x. x.0)
    | inr none ↦ subst (λ (d : Disk). Changed d0 d NoCopies) (sym none.same) (changed_none NoCopies d0 tt)
  ]

-- What is reported

act_cause : (reading : Option Reading) (path : List ℕ) (a : Act) (o : ActOutcome) (answer : Option Bool) (before now : Moment) → DoneBy reading path a o answer before now → HasCause reading before.disk.refusals now.disk.refusals o
act_cause reading path (act.Append entry) (outcome.Appended result) answer before now done = done.made.fault (asks_told before.trigger)
act_cause reading path act.Step (outcome.Stepped result) answer before now done = (done.stepped.made refl).fault
act_cause reading path (act.Late entry) (outcome.Appended result) answer before now done =
    late_fault reading any_fault entry.logged entry.context (now.disk ≡ before.disk) result before.disk now.disk done.faults
act_cause reading path (act.Append entry) (outcome.Stepped result) answer before now done = absurd done
act_cause reading path (act.Late entry) (outcome.Stepped result) answer before now done = absurd done
act_cause reading path act.Step (outcome.Appended result) answer before now done = absurd done

acts_causes : (reading : Option Reading) (path : List ℕ) (dones : List ActDone) (first last : Moment) → All (IsDone reading path) dones → GoFrom first dones last
    → HaveCauses reading first.disk.refusals last.disk.refusals (map (λ (d : ActDone). d.outcome) dones)
acts_causes reading path [] first last each go = ap (λ (m : Moment). m.disk.refusals) (sym go)
acts_causes reading path (d ∷ dones) first last each go =
    let is = All-head (IsDone reading path) d dones each in
    subst (λ (m : Moment). HaveCauses reading m.disk.refusals last.disk.refusals (map (λ (d : ActDone). d.outcome) (d ∷ dones))) go.0 (
      d.now.disk.refusals,
      (act_spares reading path d.act d.outcome d.answer d.before d.now is.0).store.refusals,
      act_cause reading path d.act d.outcome d.answer d.before d.now is.0,
      acts_causes reading path dones d.now last (All-tail (IsDone reading path) d dones each) go.1,
    )

kinds_then : (reading : Option Reading) (path : List ℕ) (a : Act) (o : ActOutcome) (answer : Option Bool) (before now : Moment) (acts : List Act) (outcomes : List ActOutcome) → DoneBy reading path a o answer before now → Answer acts outcomes → Answer (a ∷ acts) (o ∷ outcomes)
kinds_then reading path (act.Append entry) (outcome.Appended result) answer before now acts outcomes done rest = rest
kinds_then reading path act.Step (outcome.Stepped result) answer before now acts outcomes done rest = rest
kinds_then reading path (act.Late entry) (outcome.Appended result) answer before now acts outcomes done rest = rest
kinds_then reading path (act.Append entry) (outcome.Stepped result) answer before now acts outcomes done rest = absurd done
kinds_then reading path (act.Late entry) (outcome.Stepped result) answer before now acts outcomes done rest = absurd done
kinds_then reading path act.Step (outcome.Appended result) answer before now acts outcomes done rest = absurd done

acts_kinds : (reading : Option Reading) (path : List ℕ) (dones : List ActDone) → All (IsDone reading path) dones → Answer (map (λ (d : ActDone). d.act) dones) (map (λ (d : ActDone). d.outcome) dones)
acts_kinds reading path [] each = tt
acts_kinds reading path (d ∷ dones) each =
    kinds_then reading path d.act d.outcome d.answer d.before d.now _ _ (All-head (IsDone reading path) d dones each).0 (acts_kinds reading path dones (All-tail (IsDone reading path) d dones each))

acts_number : (dones : List ActDone) → length (map (λ (d : ActDone). d.outcome) dones) ≡ length (map (λ (d : ActDone). d.act) dones)
acts_number [] = refl
acts_number (d ∷ dones) = ap suc (acts_number dones)

acts_answers : (dones : List ActDone) → length (answers_in dones) ≤ length (map (λ (d : ActDone). d.outcome) dones)
acts_answers [] = omega arith
acts_answers (d ∷ dones) =
    let rest = acts_answers dones in
    let one = at_most_one d.answer in
    let both : length (answers_in (d ∷ dones)) ≡ length (option_to_list d.answer) + length (answers_in dones) = length-append (option_to_list d.answer) (answers_in dones) in
    omega arith

pub run_reports : (Starts : BuiltIn → Type 0) (reading : Option Reading) (k : Keeping) (path : List ℕ) (acts : List Act) (report : RunReport) (r : Result Unit OpeningError) (d0 d1 : Disk) → report.opening ≡ r
    → RunBy r Starts reading k path acts report d0 d1 → Reports ⊥ reading acts d0.refusals d1.refusals report
run_reports Starts reading k path acts report (Ok u) d0 d1 is run =
    let first = run.first in
    let last = run.last in
    let done = run.done in
    reports_goes reading acts report d0 first.disk last.disk d1 (λ (added : List Change). Unit {0}) is (began_calls k (kept_at first) path true d0 first.disk run.opened)
    (subst (HaveCauses reading first.disk.refusals last.disk.refusals) (sym done.noted) (acts_causes reading path done.dones first last done.each done.go)) run.closed
    (ap (λ (os : List ActOutcome). length os) done.noted ∙ acts_number done.dones ∙ ap (λ (these : List Act). length these) done.acted)
    (subst (Answer acts) (sym done.noted) (subst (λ (these : List Act). Answer these (map (λ (d : ActDone). d.outcome) done.dones)) done.acted (acts_kinds reading path done.dones done.each)))
    (let a = ap (λ (bs : List Bool). length bs) done.said in let b = ap (λ (os : List ActOutcome). length os) done.noted in let c = acts_answers done.dones in omega arith)
run_reports Starts reading k path acts report (Err e) d0 d1 is run =
    reports_fails reading acts report e d0 run.left d1 (λ (added : List Change). Unit {0}) is run.outcomes run.answers (tried_calls k path true d0 run.left run.tried) run.cause run.closed

-- a run without a stop
pub itself_reported : (Starts : BuiltIn → Type 0) (reading : Option Reading) (k : Keeping) (path : List ℕ) (acts : List Act) (report : RunReport) (d0 d1 : Disk) → IsTrue k.is_built_in → NoCounts report
    → RunBy report.opening Starts reading k path acts report d0 d1 → IsReported ⊥ reading None acts report d0 d1
itself_reported Starts reading k path acts report d0 d1 built none run =
    let spared = run_spares Starts reading k path acts report report.opening d0 d1 built run in
    let seen = uncounted d1.refusals report.stopped none.1 in
    record {
      reports = subst (λ (n : ℕ). Reports ⊥ reading acts d0.refusals n report) seen (run_reports Starts reading k path acts report report.opening d0 d1 refl run);
      stops = λ known. none;
      operations = tt;
      changes = calls_changed d0 d1 (λ added. Unit {0}) spared.store;
      copies = λ nothing. calls_changed d0 d1 NoCopies (spared.copies (λ grew. nothing (subst (Grew d0.refusals) seen grew)));
      later = λ known. spared.store.refusals;
    }
