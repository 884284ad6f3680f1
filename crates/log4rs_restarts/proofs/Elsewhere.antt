-- Runs touch no file beside those of their window.
use Rattle.std.proofs.Common.{◌≡◌, ℕ, zero, suc, List, [], ◌∷◌, ◌++◌, All, Bool, true, false, Option, Some, None, IsTrue, Result, Ok, Err, IfOk, OnErr, if◌then◌else◌, unwrap_or, inl, inr, refl, sym, subst, arith}
use Rattle.std.proofs.lemmas.List.Elements.{All-head, All-tail}
use Rattle.std.specs.Option.{option_to_list}
use Rattle.log4rs_rolling.specs.Archives.{waiting_name}
use Rattle.log4rs_rolling.specs.Change.{Change, opened}
use Rattle.log4rs_rolling.specs.Disk.{Disk, Calls, Does}
use Rattle.log4rs_rolling.specs.Appends.{Reading}
use Rattle.log4rs_rolling.specs.Keeping.{Keeping, StaysAmong, names_of}
use Rattle.log4rs_rolling.specs.Moves.{archive_names}
use Rattle.log4rs_rolling.specs.FileChanges.{OnlyAppends, OnlyOpens, way}
use Rattle.log4rs_rolling.specs.Places.{OnlyOf}
use Rattle.log4rs_rolling.specs.Roller.{archives_of, waiting_if}
use Rattle.log4rs_rolling.specs.Window.{IsOurs, names}
use Rattle.log4rs_rolling.proofs.Calls.{calls_map, calls_none, calls_one}
use Rattle.log4rs_rolling.proofs.Places.{among_alone, among_join, appended_named, is_named, named_join}
use Rattle.log4rs_rolling.proofs.Quiet.{opens_append}
use Rattle.log4rs_restarts.specs.Acts.{BuiltIn}
use Rattle.log4rs_restarts.specs.ActsDone.{ActDone, DidRun, DidRuns, DoneBy, GoFrom, IsDone, Moment, RunBy, kept_at}
use Rattle.log4rs_restarts.specs.RollingSettings.{archive_name, keeping_of, path_of, window_of}
use Rattle.log4rs_restarts.specs.Stops.{Changed, StopsAt}
use Rattle.log4rs_restarts.specs.Triggers.{Begins}
use Rattle.log4rs_restarts.specs.declared.rolling_settings.RollingSettings.{RollingSettings}
use Rattle.log4rs_restarts.specs.declared.run.Act.{Act}
use Rattle.log4rs_restarts.specs.declared.run.Act.TheVariants as act
use Rattle.log4rs_restarts.specs.declared.run.ActOutcome.{ActOutcome}
use Rattle.log4rs_restarts.specs.declared.run.ActOutcome.TheVariants as outcome
use Rattle.log4rs_restarts.specs.declared.run.OpeningError.{OpeningError}
use Rattle.log4rs_restarts.specs.declared.run.Report.{Report}
use Rattle.log4rs_restarts.specs.declared.run.Run.{Run}
use Rattle.log4rs_restarts.specs.declared.run.RunReport.{RunReport}
use Rattle.log4rs_restarts.specs.declared.settings.TriggerSettings.{TriggerSettings}
use Rattle.log4rs_restarts.proofs.Doing.{changed_join, changed_map, changed_none}
use Rattle.log4rs_restarts.proofs.Late.{late_limits}
use Rattle.log4rs_restarts.proofs.Windowed.{IsFresh, same_names, seen_over, window_fresh}

only_append : (ns : List (List ℕ)) (xs ys : List Change) → OnlyOf ns xs → OnlyOf ns ys → OnlyOf ns (xs ++ ys)
only_append ns [] ys a b = b
only_append ns (x ∷ xs) ys a b = (a.0, only_append ns xs ys a.1 b)

-- Acts

act_among : (reading : Option Reading) (path : List ℕ) (a : Act) (o : ActOutcome) (answer : Option Bool) (before now : Moment) → DoneBy reading path a o answer before now
    → StaysAmong (kept_at before) (kept_at now) path before.disk now.disk
act_among reading path (act.Append entry) (outcome.Appended result) answer before now done = done.limited.elsewhere
act_among reading path act.Step (outcome.Stepped result) answer before now done = (done.stepped.steps path).elsewhere
act_among reading path (act.Late entry) (outcome.Appended result) answer before now done = (late_limits reading path entry result answer before now done).elsewhere
act_among reading path (act.Append entry) (outcome.Stepped result) answer before now done = absurd done
act_among reading path (act.Late entry) (outcome.Stepped result) answer before now done = absurd done
act_among reading path act.Step (outcome.Appended result) answer before now done = absurd done

-- a part without a change
still_among : (k : Keeping) (path : List ℕ) (d0 d1 : Disk) → Calls d0 d1 (λ added. added ≡ []) → StaysAmong k k path d0 d1
still_among k path d0 d1 calls =
    among_alone k k path d0 d1 refl (calls_map d0 d1 (λ added. added ≡ []) (OnlyOf (names_of k path)) calls (λ added tells told none. subst (OnlyOf (names_of k path)) (sym none) tt))

acts_among : (reading : Option Reading) (path : List ℕ) (dones : List ActDone) (first last : Moment) → All (IsDone reading path) dones → GoFrom first dones last
    → StaysAmong (kept_at first) (kept_at last) path first.disk last.disk
acts_among reading path [] first last each go =
    subst (λ (m : Moment). StaysAmong (kept_at first) (kept_at m) path first.disk m.disk) (sym go) (still_among (kept_at first) path first.disk first.disk (calls_none first.disk (λ added. added ≡ []) refl))
acts_among reading path (d ∷ dones) first last each go =
    let is = All-head (IsDone reading path) d dones each in
    subst (λ (m : Moment). StaysAmong (kept_at m) (kept_at last) path m.disk last.disk) go.0
    (among_join (kept_at d.before) (kept_at d.now) (kept_at last) path path d.before.disk d.now.disk last.disk (same_names reading path d.act d.outcome d.answer d.before d.now is.0) refl
    (act_among reading path d.act d.outcome d.answer d.before d.now is.0) (acts_among reading path dones d.now last (All-tail (IsDone reading path) d dones each) go.1))

-- A run

closes_nothing : (d0 d1 : Disk) → Does d0 d1 [] d0.refusals None → Calls d0 d1 (λ added. added ≡ [])
closes_nothing d0 d1 does = calls_one d0 d1 None (λ added. added ≡ []) [] d0.refusals does (omega arith) (λ tells. refl)

opening_named : (k : Keeping) (path : List ℕ) (d0 d1 : Disk) → Does d0 d1 (opened path (way true) ∷ []) d0.refusals (Some path) → Calls d0 d1 (OnlyOf (names_of k path))
opening_named k path d0 d1 does = calls_one d0 d1 (Some path) (OnlyOf (names_of k path)) (opened path (way true) ∷ []) d0.refusals does (omega arith) (λ tells. (is_named k path, tt))

-- and nothing behind it
behind : (ns : List (List ℕ)) (d0 d1 d2 : Disk) → Calls d0 d1 (OnlyOf ns) → Calls d1 d2 (λ added. added ≡ []) → Calls d0 d2 (OnlyOf ns)
behind ns d0 d1 d2 x y = named_join ns d0 d1 d2 x (calls_map d1 d2 (λ added. added ≡ []) (OnlyOf ns) y (λ added tells told none. subst (OnlyOf ns) (sym none) tt))

run_among : (Starts : BuiltIn → Type 0) (reading : Option Reading) (k : Keeping) (path : List ℕ) (acts : List Act) (report : RunReport) (r : Result Unit OpeningError) (d0 d1 : Disk) → IsOurs (k.vacant path) → IsTrue k.is_built_in
    → RunBy r Starts reading k path acts report d0 d1 → Calls d0 d1 (OnlyOf (names_of k path))
run_among Starts reading k path acts report (Ok u) d0 d1 ours built run =
    let begun = run.opened in
    let k1 = kept_at run.first in
    let k2 = kept_at run.last in
    let asked = begun.asked in
    let f = run.first.disk in
    let l = run.last.disk in
    let one : StaysAmong k k1 path d0 f =
    among_join k k1 k1 path path d0 asked f begun.stepped.names refl begun.stepped.elsewhere (among_alone k1 k1 path asked f refl (opening_named k1 path asked f begun.opens)) in
    let ns = names_of k path in
    let acted : StaysAmong k1 k2 path f l = acts_among reading path run.done.dones run.first run.last run.done.each run.done.go in
    behind ns d0 l d1 ((among_join k k1 k2 path path d0 f l begun.stepped.names refl one acted ours).1 built) (closes_nothing l d1 run.closed)
run_among Starts reading k path acts report (Err e) d0 d1 ours built run =
    let tried = run.tried in
    let k1 = tried.now in
    let opens : Calls tried.asked run.left (OnlyAppends path (way true)) =
    calls_map tried.asked run.left (OnlyOpens path (way true)) (OnlyAppends path (way true)) tried.opens (λ added tells told only. opens_append path (way true) added only) in
    let one : StaysAmong k k1 path d0 run.left =
    among_join k k1 k1 path path d0 tried.asked run.left tried.stepped.names refl tried.stepped.elsewhere
    (among_alone k1 k1 path tried.asked run.left refl (appended_named k1 path (way true) tried.asked run.left opens)) in
    let ns = names_of k path in
    behind ns d0 run.left d1 ((one ours).1 built) (closes_nothing run.left d1 run.closed)

did_among : (Starts : BuiltIn → Type 0) (reading : Option Reading) (k : Keeping) (path : List ℕ) (stop_after : Option ℕ) (acts : List Act) (report : RunReport) (d0 d1 : Disk) → IsFresh k path
    → DidRun Starts reading k path stop_after acts report d0 d1 → Changed d0 d1 (OnlyOf (names_of k path))
did_among Starts reading k path stop_after acts report d0 d1 fresh did =
    let ns = names_of k path in
    elim did [
      | inl ran ↦
          let calls = run_among Starts reading k path acts report report.opening ran.seen ran.left (subst IsOurs (sym fresh.anywhere) tt) fresh.built ran.run in
          changed_map d0 d1 (λ added. OnlyOf ns added × StopsAt stop_after added) (OnlyOf ns)
          (seen_over stop_after report.stopped d0 ran.seen ran.left d1 (λ files. OnlyOf ns) ran.store (record { tells = calls.tells; told = calls.told }))
          (λ added x. x.0)
      | inr none ↦ subst (λ (d : Disk). Changed d0 d (OnlyOf ns)) (sym none.same) (changed_none (OnlyOf ns) d0 tt)
    ]

-- Runs

runs_among : (Starts : BuiltIn → Type 0) (reading : Option Reading) (k : Keeping) (path : List ℕ) (runs : List Run) (reports : List RunReport) (d0 d1 : Disk) → IsFresh k path → DidRuns Starts reading k path runs reports d0 d1
    → Changed d0 d1 (OnlyOf (names_of k path))
runs_among Starts reading k path [] [] d0 d1 fresh did = subst (λ (d : Disk). Changed d0 d (OnlyOf (names_of k path))) did (changed_none (OnlyOf (names_of k path)) d0 tt)
runs_among Starts reading k path [] (report ∷ reports) d0 d1 fresh did = absurd did
runs_among Starts reading k path (run ∷ runs) [] d0 d1 fresh did = absurd did
runs_among Starts reading k path (run ∷ runs) (report ∷ reports) d0 d1 fresh did =
    let ns = names_of k path in
    changed_join d0 did.0 d1 (OnlyOf ns) (OnlyOf ns) (OnlyOf ns) (did_among Starts reading k path run.stop_after run.acts.items report d0 did.0 fresh did.1) (runs_among Starts reading k path runs reports did.0 d1 fresh did.2)
    (λ xs ys tells told x y. only_append ns xs ys x y)

-- the names of settings are those that their roller keeps, with those of the file
names_kept : (name : ℕ → List ℕ) (base count : ℕ) (background : Bool) (path : List ℕ)
    → unwrap_or (archives_of name base count) [] ++ option_to_list (waiting_if background path) ++ path ∷ []
    ≡ archive_names name base count ++ option_to_list (if background then Some (waiting_name path) else None) ++ path ∷ []
names_kept name base zero true path = refl
names_kept name base zero false path = refl
names_kept name base (suc n) true path = refl
names_kept name base (suc n) false path = refl

pub elsewhere_same : (settings : RollingSettings) (disk : Disk) → Changed disk disk (OnlyOf (names (window_of settings)))
elsewhere_same settings disk = changed_none (OnlyOf (names (window_of settings))) disk tt

pub elsewhere_by : {E : Type 0} (settings : RollingSettings) (trigger : TriggerSettings) (reading : Option Reading) (keeping : Keeping) (path : List ℕ) (runs : List Run) (result : Result Report E) (d0 d1 : Disk)
    → keeping ≡ keeping_of settings → path ≡ path_of settings → IfOk result (λ report. DidRuns (Begins trigger) reading keeping path runs report.runs.items d0 d1) → OnErr result (d1 ≡ d0)
    → Changed d0 d1 (OnlyOf (names (window_of settings)))
elsewhere_by settings trigger reading keeping path runs (Ok report) d0 d1 same_keeping same_path did none =
    let s = settings in
    let here : DidRuns (Begins trigger) reading (keeping_of s) (path_of s) runs report.runs.items d0 d1 =
    subst (λ (k : Keeping). DidRuns (Begins trigger) reading k (path_of s) runs report.runs.items d0 d1) same_keeping (subst (λ (p : List ℕ). DidRuns (Begins trigger) reading keeping p runs report.runs.items d0 d1) same_path did) in
    subst (λ (ns : List (List ℕ)). Changed d0 d1 (OnlyOf ns)) (names_kept (archive_name s) s.base s.count s.background (path_of s))
    (runs_among (Begins trigger) reading (keeping_of s) (path_of s) runs report.runs.items d0 d1 (window_fresh (archive_name s) s.base s.count s.rename_only s.background (path_of s)) here)
elsewhere_by settings trigger reading keeping path runs (Err e) d0 d1 same_keeping same_path did same = subst (λ (d : Disk). Changed d0 d (OnlyOf (names (window_of settings)))) (sym same) (elsewhere_same settings d0)
