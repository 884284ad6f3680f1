-- What runs report.
use Rattle.std.proofs.Common.{◌≡◌, ◌≤◌, ◌∙◌, ℕ, suc, List, [], ◌∷◌, ◌++◌, Bool, true, false, Option, Some, None, IsTrue, inl, inr, ◌⊎◌, Result, Ok, Err, is_ok, IfErr, All, refl, sym, ap, subst, length, take, get_or, arith, ◌<◌, ◌+◌}
use Rattle.std.proofs.lemmas.List.{take_more, length-append}
use Rattle.std.specs.Option.{option_to_list}
use Rattle.std.proofs.lemmas.List.Elements.{All-head, All-tail}
use Rattle.log4rs_rolling.specs.Change.{Change}
use Rattle.log4rs_rolling.specs.Disk.{Disk, Does, Calls, Grew, Uncounted}
use Rattle.log4rs_rolling.specs.Appends.{Reading}
use Rattle.log4rs_rolling.specs.Copies.{CopiesNeedRefusal}
use Rattle.log4rs_rolling.specs.Window.{NoCopies}
use Rattle.log4rs_rolling.proofs.Parts.{not_yes}
use Rattle.log4rs_restarts.specs.Stops.{Changed, Counts, Start, start_of, marked, counted, StopsAt, LetsThrough, Operated}
use Rattle.log4rs_restarts.specs.Failures.{MayFail}
use Rattle.log4rs_restarts.specs.Reports.{acts_in, Answer, HaveCauses, NoCounts, Reports, IsReported, AreReported}
use Rattle.log4rs_restarts.specs.Runs.{IsRefused}
use Rattle.log4rs_restarts.specs.Sessions.{IsEmpty}
use Rattle.log4rs_restarts.specs.declared.run.OpeningError.{OpeningError}
use Rattle.log4rs_restarts.specs.declared.run.OpeningError.TheVariants.{Settings, Store, Memory}
use Rattle.log4rs_restarts.specs.declared.run.Act.{Act}
use Rattle.log4rs_restarts.specs.declared.run.ActOutcome.{ActOutcome}
use Rattle.log4rs_restarts.specs.declared.run.Run.{Run}
use Rattle.log4rs_restarts.specs.declared.run.RunReport.{RunReport}
use Rattle.log4rs_restarts.proofs.Doing.{changed_none, changed_join, calls_changed, changed_by, same_mark, closed, then_none, stopped_clean}

pub at_most_one : (answer : Option Bool) → length (option_to_list answer) ≤ 1
at_most_one None = omega arith
at_most_one (Some b) = omega arith

abbrev Fails : Type 0 → ℕ → ℕ → Result Unit OpeningError → Type 0
Fails Refused before now opening = IfErr opening (MayFail Refused before now)

abbrev Outcomes : List Act → Result Unit OpeningError → ℕ
Outcomes acts opening = length (acts_in (is_ok opening) acts)

-- a run that was opened
pub reports_goes : (reading : Option Reading) (acts : List Act) (report : RunReport) (d0 d1 d2 d3 : Disk) (P : List Change → Type 0)
    → report.opening ≡ Ok _ → Calls d0 d1 P → HaveCauses reading d1.refusals d2.refusals report.outcomes.items → Does d2 d3 [] d2.refusals None
    → length report.outcomes.items ≡ length acts → Answer acts report.outcomes.items → length report.answers.items ≤ length report.outcomes.items
    → Reports ⊥ reading acts d0.refusals d3.refusals report
reports_goes reading acts report d0 d1 d2 d3 P is opens causes closes number kinds answers =
    record {
      count = d1.refusals;
      later = opens.refusals;
      opening = subst (Fails ⊥ d0.refusals d1.refusals) (sym is) tt;
      outcomes = subst (λ (n : ℕ). HaveCauses reading d1.refusals n report.outcomes.items) (sym closes.refusals) causes;
      number = number ∙ ap (Outcomes acts) (sym is);
      kinds = subst (λ (r : Result Unit OpeningError). Answer (acts_in (is_ok r) acts) report.outcomes.items) (sym is) kinds;
      answers = answers;
    }

-- no entry of a run was appended
not_appended : (Refused : Type 0) (reading : Option Reading) (acts : List Act) (report : RunReport) (error : OpeningError) (before after : ℕ)
    → report.opening ≡ Err error → report.outcomes.items ≡ [] → report.answers.items ≡ [] → before ≤ after → MayFail Refused before after error
    → Reports Refused reading acts before after report
not_appended Refused reading acts report error before after is no_outcomes no_answers later cause =
    record {
      count = after;
      later = later;
      opening = subst (Fails Refused before after) (sym is) cause;
      outcomes = subst (HaveCauses reading after after) (sym no_outcomes) refl;
      number = ap (λ (os : List ActOutcome). length os) no_outcomes ∙ ap (Outcomes acts) (sym is);
      kinds = subst (λ (r : Result Unit OpeningError). Answer (acts_in (is_ok r) acts) report.outcomes.items) (sym is) (subst (Answer []) (sym no_outcomes) tt);
      answers = let a = ap (λ (bs : List Bool). length bs) no_answers in omega arith;
    }

-- a run in which the opening was refused
pub reports_fails : (reading : Option Reading) (acts : List Act) (report : RunReport) (error : OpeningError) (d0 d1 d2 : Disk) (P : List Change → Type 0)
    → report.opening ≡ Err error → report.outcomes.items ≡ [] → report.answers.items ≡ []
    → Calls d0 d1 P → MayFail ⊥ d0.refusals d1.refusals error → Does d1 d2 [] d1.refusals None
    → Reports ⊥ reading acts d0.refusals d2.refusals report
reports_fails reading acts report error d0 d1 d2 P is no_outcomes no_answers opens cause closes =
    subst (λ (n : ℕ). Reports ⊥ reading acts d0.refusals n report) (sym closes.refusals)
    (not_appended ⊥ reading acts report error d0.refusals d1.refusals is no_outcomes no_answers opens.refusals cause)

-- where a stop refused nothing, what is seen is what is counted
pub uncounted : (refusals stopped : ℕ) → stopped ≡ 0 → refusals ≡ counted refusals stopped
uncounted refusals stopped none = sym (ap (counted refusals) none)

tells_or : (b : Bool) → IsTrue b ⊎ (IsTrue b → ⊥)
tells_or true = inl refl
tells_or false = inr (λ t. not_yes (sym t))

-- a run with a stop, of a store that is closed before and after
pub stopped_reported : (reading : Option Reading) (acts : List Act) (report : RunReport) (limit limit1 limit2 passed stopped1 stopped2 denied1 denied2 : ℕ) (b1 b2 : Disk) (d0 d1 d2 d3 : Disk) (P : List Change → Type 0)
    → Does d0 d1 [] d0.refusals None → start_of limit1 b1 ≡ start_of limit d1 → stopped1 ≡ 0
    → Calls (marked (start_of limit1 b1) stopped1 denied1 d1) (marked (start_of limit2 b2) stopped2 denied2 d2) P
    → Reports ⊥ reading acts (counted d1.refusals stopped1) (counted d2.refusals stopped2) report
    → CopiesNeedRefusal (marked (start_of limit1 b1) stopped1 denied1 d1) (marked (start_of limit2 b2) stopped2 denied2 d2)
    → (IsTrue d2.tells → (start_of limit2 b2).refusals ≤ d2.refusals) → passed ≤ limit2
    → (IsTrue d2.tells → length d2.changes ≤ (start_of limit2 b2).changes + passed)
    → (IsTrue d2.tells → d2.operations ≡ counted (start_of limit2 b2).operations passed)
    → (IsTrue d2.tells → 0 < stopped2 → passed ≡ limit2)
    → Uncounted d0 d1 → Uncounted d2 d3
    → Does d2 d3 [] d2.refusals None → report.passed ≡ passed → report.stopped ≡ stopped2
    → IsReported ⊥ reading (Some limit) acts report d0 d3
stopped_reported reading acts report limit limit1 limit2 passed stopped1 stopped2 denied1 denied2 b1 b2 d0 d1 d2 d3 P opens begins none calls reports copies later within changes made stops uncounted1 uncounted3 closes let_through refused =
    elim (tells_or d0.tells) [
      | inl tells ↦
          let tells1 = subst IsTrue (sym opens.tells) tells in
          let tells2 = subst IsTrue (sym ran.tells) tells1 in
          let starts : start_of limit2 b2 ≡ start_of limit d1 = same_mark m1 m2 stopped1 stopped2 denied1 denied2 d1 d2 P (calls_changed (marked m1 stopped1 denied1 d1) (marked m2 stopped2 denied2 d2) P calls) tells1 ∙ begins in
          let same_limit : limit2 ≡ limit = ap (λ (s : Start). s.limit) starts in
          record {
            reports = told;
            stops = λ known. (
              subst (λ (n : ℕ). n ≤ limit) (sym let_through) (subst (λ (n : ℕ). passed ≤ n) same_limit within),
              λ some. let_through ∙ stops tells2 (subst (λ (n : ℕ). 0 < n) refused some) ∙ same_limit,
            );
            operations = λ tells.
                uncounted3.operations tells2
                ∙ made tells2
                ∙ ap (λ (s : Start). counted s.operations passed) starts
                ∙ ap (λ (n : ℕ). counted n passed) (uncounted1.operations tells)
                ∙ sym (ap (counted d0.operations) let_through);
            changes = record {
              tells = all.tells;
              told = λ tells.
                  let was = all.told tells in
                  let first : length d1.changes ≡ length d0.changes = same_length d0 d1 (closed d0 d1 opens) tells in
                  let last : length d3.changes ≡ length d2.changes = same_length d2 d3 (closed d2 d3 closes) tells2 in
                  let more : length d3.changes ≡ length d0.changes + length was.0 = ap (λ (c : List Change). length c) was.1.changes ∙ length-append d0.changes was.0 in
                  let start : (start_of limit2 b2).changes ≡ length d1.changes = ap (λ (s : Start). s.changes) starts in
                  let few = changes tells2 in
                  (was.0, was.1, subst (λ (n : ℕ). length was.0 ≤ n) (sym let_through) (omega arith));
            };
            copies = clean;
            later = λ known. let a = later tells2 in let b : (start_of limit2 b2).refusals ≡ d1.refusals = ap (λ (s : Start). s.refusals) starts in let c = opens.refusals in let d = closes.refusals in omega arith;
          }
      | inr untold ↦
          record {
            reports = told;
            stops = λ known. elim known [
              | inl tells ↦ absurd (untold tells)
              | inr free ↦ absurd (no_stop limit free)
            ];
            operations = λ tells. absurd (untold tells);
            changes = record { tells = all.tells; told = λ tells. absurd (untold tells) };
            copies = clean;
            later = λ known. elim known [
              | inl tells ↦ absurd (untold tells)
              | inr free ↦ absurd (no_stop limit free)
            ];
          }
    ] where
      m1 : Start
      m1 = start_of limit1 b1

      m2 : Start
      m2 = start_of limit2 b2

      seen : ℕ
      seen = counted d2.refusals stopped2

      ran : Changed d1 d2 P
      ran = changed_by m1 m2 stopped1 stopped2 denied1 denied2 d1 d2 P (calls_changed (marked m1 stopped1 denied1 d1) (marked m2 stopped2 denied2 d2) P calls)

      all : Changed d0 d3 P
      all = then_none d0 d2 d3 P (changed_join d0 d1 d2 (λ added. added ≡ []) P P (closed d0 d1 opens) ran (λ xs ys tells told x y. subst (λ (c : List Change). P (c ++ ys)) (sym x) y)) (closed d2 d3 closes)

      -- the same, as the report tells
      as_seen : seen ≡ counted d3.refusals report.stopped
      as_seen = ap (λ (n : ℕ). counted n stopped2) (sym closes.refusals) ∙ ap (counted d3.refusals) (sym refused)

      told : Reports ⊥ reading acts d0.refusals (counted d3.refusals report.stopped) report
      told =
          subst (λ (n : ℕ). Reports ⊥ reading acts d0.refusals n report) as_seen
          (subst (λ (n : ℕ). Reports ⊥ reading acts n seen report) (ap (counted d1.refusals) none ∙ opens.refusals) reports)

      clean : ¬ (Grew d0.refusals (counted d3.refusals report.stopped)) → Changed d0 d3 NoCopies
      clean nothing =
          stopped_clean m1 m2 stopped1 stopped2 denied1 denied2 d0 d1 d2 d3 opens
          (copies (λ grew. nothing (subst (Grew d0.refusals) as_seen (subst (λ (n : ℕ). Grew n seen) (ap (counted d1.refusals) none ∙ opens.refusals) grew)))) closes

      no_stop : (n : ℕ) → Some n ≡ None → ⊥
      no_stop n e = cc

      same_length : (d0 d1 : Disk) → Changed d0 d1 (λ added. added ≡ []) → IsTrue d0.tells → length d1.changes ≡ length d0.changes
      same_length d0 d1 none tells =
          let was = none.told tells in
          ap (λ (c : List Change). length c) (was.1.changes ∙ ap (λ (c : List Change). d0.changes ++ c) was.2) ∙ length-append d0.changes [] ∙ (omega arith)

lets_none : (stop_after : Option ℕ) (passed : ℕ) → LetsThrough stop_after passed []
lets_none None passed = tt
lets_none (Some limit) passed = omega arith

counts_none : (stop_after : Option ℕ) (passed stopped : ℕ) → passed ≡ 0 → stopped ≡ 0 → Counts stop_after passed stopped
counts_none None passed stopped p s = (p, s)
counts_none (Some limit) passed stopped p s = (omega arith, λ some. absurd (omega arith))

operated_none : (stop_after : Option ℕ) (passed : ℕ) (disk : Disk) → passed ≡ 0 → Operated stop_after passed disk disk
operated_none None passed disk none = tt
operated_none (Some limit) passed disk none = λ tells. sym (ap (counted disk.operations) none)

-- nothing was done
pub nothing_reported : (Refused : Type 0) (reading : Option Reading) (stop_after : Option ℕ) (acts : List Act) (report : RunReport) (error : OpeningError) (disk : Disk)
    → report.opening ≡ Err error → report.outcomes.items ≡ [] → report.answers.items ≡ [] → NoCounts report → MayFail Refused disk.refusals disk.refusals error
    → IsReported Refused reading stop_after acts report disk disk
nothing_reported Refused reading stop_after acts report error disk is no_outcomes no_answers none cause =
    record {
      reports = subst (λ (n : ℕ). Reports Refused reading acts disk.refusals n report) (uncounted disk.refusals report.stopped none.1)
          (not_appended Refused reading acts report error disk.refusals disk.refusals is no_outcomes no_answers (omega arith) cause);
      stops = λ known. counts_none stop_after report.passed report.stopped none.0 none.1;
      operations = operated_none stop_after report.passed disk none.0;
      changes = changed_none (LetsThrough stop_after report.passed) disk (lets_none stop_after report.passed);
      copies = λ nothing. changed_none NoCopies disk tt;
      later = λ known. omega arith;
    }

fails_more : (P Q : Type 0) → (P → Q) → (before now : ℕ) (error : OpeningError) → MayFail P before now error → MayFail Q before now error
fails_more P Q all before now Settings fails = all fails
fails_more P Q all before now Store fails = fails
fails_more P Q all before now Memory fails = tt

err_more : (P Q : Type 0) → (P → Q) → (before now : ℕ) (r : Result Unit OpeningError) → Fails P before now r → Fails Q before now r
err_more P Q all before now (Ok u) fails = tt
err_more P Q all before now (Err e) fails = fails_more P Q all before now e fails

-- the same report, where more is refused
reported_more : (P Q : Type 0) (reading : Option Reading) (stop_after : Option ℕ) (acts : List Act) (report : RunReport) (d0 d1 : Disk)
    → (P → Q) → IsReported P reading stop_after acts report d0 d1 → IsReported Q reading stop_after acts report d0 d1
reported_more P Q reading stop_after acts report d0 d1 all is =
    let was = is.reports in
    record {
      reports = record {
        count = was.count;
        later = was.later;
        opening = err_more P Q all d0.refusals was.count report.opening was.opening;
        outcomes = was.outcomes;
        number = was.number;
        kinds = was.kinds;
        answers = was.answers;
      };
      stops = is.stops;
      operations = is.operations;
      changes = is.changes;
      copies = is.copies;
      later = is.later;
    }

-- the same run, as the settings tell it
pub once_reported : (Refused : Type 0) (reading : Option Reading) (stop_after : Option ℕ) (acts acts1 : List Act) (report : RunReport) (d0 d1 : Disk)
    → acts1 ≡ acts → IsReported ⊥ reading stop_after acts1 report d0 d1 → IsReported Refused reading stop_after acts report d0 d1
once_reported Refused reading stop_after acts acts1 report d0 d1 same is =
    reported_more ⊥ Refused reading stop_after acts report d0 d1 (λ none. absurd none) (subst (λ (es : List Act). IsReported ⊥ reading stop_after es report d0 d1) same is)

stops_in : (stop_after : Option ℕ) (passed stopped : ℕ) (added : List Change) → Counts stop_after passed stopped → LetsThrough stop_after passed added → StopsAt stop_after added
stops_in None passed stopped added counts lets = tt
stops_in (Some limit) passed stopped added counts lets = let a = counts.0 in let b = lets in omega arith

-- a stop bounds the changes
pub reported_stops : (Refused : Type 0) (reading : Option Reading) (stop_after : Option ℕ) (acts : List Act) (report : RunReport) (d0 d1 : Disk)
    → IsReported Refused reading stop_after acts report d0 d1 → Changed d0 d1 (StopsAt stop_after)
reported_stops Refused reading stop_after acts report d0 d1 is = record {
  tells = is.changes.tells;
  told = λ tells. let was = is.changes.told tells in (was.0, was.1, stops_in stop_after report.passed report.stopped was.0 (is.stops (inl tells)) was.2);
}

-- Runs

pub all_none : (Refused : Type 0) (reading : Option Reading) (runs : List Run) (reports : List RunReport) (disk : Disk) → reports ≡ [] → AreReported Refused reading (take 0 runs) reports disk disk
all_none Refused reading runs reports disk none = subst (λ (r : List RunReport). AreReported Refused reading [] r disk disk) (sym none) refl

push : (Refused : Type 0) (reading : Option Reading) (runs : List Run) (reports : List RunReport) (run : Run) (report : RunReport) (d0 d1 d2 : Disk)
    → AreReported Refused reading runs reports d0 d1 → IsReported Refused reading run.stop_after run.acts.items report d1 d2
    → AreReported Refused reading (runs ++ run ∷ []) (reports ++ report ∷ []) d0 d2
push Refused reading [] [] run report d0 d1 d2 are is = (d2, subst (λ (d : Disk). IsReported Refused reading run.stop_after run.acts.items report d d2) (sym are) is, refl)
push Refused reading [] (p ∷ reports) run report d0 d1 d2 are is = absurd are
push Refused reading (r ∷ runs) [] run report d0 d1 d2 are is = absurd are
push Refused reading (r ∷ runs) (p ∷ reports) run report d0 d1 d2 are is = (are.0, are.1, push Refused reading runs reports run report are.0 d1 d2 are.2 is)

-- one run more
pub all_more : (Refused : Type 0) (reading reading1 : Option Reading) (runs : List Run) (i : ℕ) (run : Run) (reports reports2 : List RunReport) (report : RunReport) (d0 d1 d2 : Disk)
    → i < length runs → run ≡ get_or runs i run → reading1 ≡ reading → reports2 ≡ reports ++ report ∷ []
    → AreReported Refused reading (take i runs) reports d0 d1 → IsReported Refused reading1 run.stop_after run.acts.items report d1 d2
    → AreReported Refused reading (take (i + 1) runs) reports2 d0 d2
all_more Refused reading reading1 runs i run reports reports2 report d0 d1 d2 below here same is past one =
    let taken : take i runs ++ run ∷ [] ≡ take (i + 1) runs = ap (λ (r : Run). take i runs ++ r ∷ []) here ∙ sym (take_more runs i run below) in
    subst (λ (r : List Run). AreReported Refused reading r reports2 d0 d2) taken
    (subst (λ (r : List RunReport). AreReported Refused reading (take i runs ++ run ∷ []) r d0 d2) (sym is)
    (push Refused reading (take i runs) reports run report d0 d1 d2 past
    (subst (λ (r : Option Reading). IsReported Refused r run.stop_after run.acts.items report d1 d2) same one)))

-- there are as many reports as runs
pub as_many : (Refused : Type 0) (reading : Option Reading) (runs : List Run) (reports : List RunReport) (d0 d1 : Disk) → AreReported Refused reading runs reports d0 d1 → length reports ≡ length runs
as_many Refused reading [] [] d0 d1 are = refl
as_many Refused reading [] (p ∷ reports) d0 d1 are = absurd are
as_many Refused reading (r ∷ runs) [] d0 d1 are = absurd are
as_many Refused reading (r ∷ runs) (p ∷ reports) d0 d1 are = ap suc (as_many Refused reading runs reports are.0 d1 are.2)

-- the same reports, where more is refused
pub all_reported : (P Q : Type 0) (reading : Option Reading) (runs : List Run) (reports : List RunReport) (d0 d1 : Disk) → (P → Q) → AreReported P reading runs reports d0 d1 → AreReported Q reading runs reports d0 d1
all_reported P Q reading [] [] d0 d1 all are = are
all_reported P Q reading [] (p ∷ reports) d0 d1 all are = absurd are
all_reported P Q reading (r ∷ runs) [] d0 d1 all are = absurd are
all_reported P Q reading (r ∷ runs) (p ∷ reports) d0 d1 all are =
    (are.0, reported_more P Q reading r.stop_after r.acts.items p d0 are.0 all are.1, all_reported P Q reading runs reports are.0 d1 all are.2)

-- all settings are refused, and no run does anything
pub all_refused : (Refused : Type 0) (reading : Option Reading) (runs : List Run) (reports : List RunReport) (disk : Disk)
    → Refused → length reports ≡ length runs → All IsRefused reports → All IsEmpty reports → AreReported Refused reading runs reports disk disk
all_refused Refused reading [] [] disk why many refused empty = refl
all_refused Refused reading [] (p ∷ reports) disk why many refused empty = absurd (let a = many in omega arith)
all_refused Refused reading (r ∷ runs) [] disk why many refused empty = absurd (let a = many in omega arith)
all_refused Refused reading (r ∷ runs) (p ∷ reports) disk why many refused empty =
    let first = All-head IsEmpty p reports empty in (
      disk,
      nothing_reported Refused reading r.stop_after r.acts.items p Settings disk (All-head IsRefused p reports refused) first.outcomes first.answers first.counts why,
      all_refused Refused reading runs reports disk why (let a = many in omega arith) (All-tail IsRefused p reports refused) (All-tail IsEmpty p reports empty),
    )
