-- The question at an opening: a file that waits is renamed to its own name.
use Rattle.std.proofs.Common.{rules, ◌≡◌, ◌<◌, ◌≤◌, ℕ, zero, suc, List, [], ◌∷◌, ◌++◌, Option, Some, None, refl, sym, ap, ◌∙◌, subst, inl, arith, IsTrue, Bool, true, false, length, Result, Ok, Err, IfOk, OnOk, unwrap_or, cond}
use Rattle.std.specs.Option.{IfSome, IsSome, option_to_list}
use Rattle.std.specs.List.{concat}
use Rattle.std.specs.Str.{bytes_eq}
use Rattle.std.proofs.lemmas.List.{append-nil}
use Rattle.std.proofs.lemmas.Slice.Eq.{bytes_eq-Decides}
use Rattle.log4rs_rolling.specs.Change.{Change, Files, opened, renamed, put, after, replay, bytes_at}
use Rattle.log4rs_rolling.specs.Disk.{Disk, Does, Calls, files_of}
use Rattle.log4rs_rolling.proofs.Calls.{calls_map, calls_none, calls_one}
use Rattle.log4rs_base.specs.declared.error.LogError.{LogError}
use Rattle.log4rs_rolling.specs.Archives.{waiting_name}
use Rattle.log4rs_rolling.specs.Window.{drops_into, Anywhere, NoCopies, OfAnother, Vacancy, VacantAt, Window, AreDistinct, around, contents, kept, names}
use Rattle.log4rs_rolling.specs.ArchiveEnds.{AreAt, ends, ends_of, older_of}
use Rattle.log4rs_rolling.specs.declared.fixed_window.Job.{Job}
use Rattle.log4rs_rolling.specs.declared.fixed_window.FixedWindowRoller.{FixedWindowRoller}
use Rattle.log4rs_rolling.specs.Keeping.{Keeping, LeavesOpen, SameNames, Silent, Stands, SteppedAt, SteppedIn, names_of}
use Rattle.log4rs_rolling.specs.Moves.{Moved, MovedAll, archive_names}
use Rattle.log4rs_rolling.specs.Places.{IsAmong, OnlyOf}
use Rattle.log4rs_rolling.specs.Roller.{archive_name, archives_of, kept_by, rest_by, rolling_if, vacancy_of, waiting_if, window_with}
use Rattle.log4rs_rolling.proofs.Aside.{IsBegun, begun_moves, begun_ours, still_background, still_some, vacancy_begun, was_background}
use Rattle.log4rs_rolling.specs.AtOpening.{AskedThenOpened, AskedThenTried, HasLooked, MadeReadyPartly, Readied, RollsAtOnce}
use Rattle.log4rs_rolling.specs.FileChanges.{OnlyOpens, way}
use Rattle.log4rs_rolling.proofs.Beginning.{start_opened, vacant_now}
use Rattle.log4rs_rolling.proofs.Places.{among_behind}
use Rattle.log4rs_rolling.proofs.Stepping.{among_front, archives_some}
use Rattle.log4rs_rolling.specs.SegmentsShown.{StaysIn}
use Rattle.log4rs_rolling.proofs.Standing.{probe_missing, stays_same}

-- A rename to the same name changes no file

probed : (files : Files) (waiting q : List ℕ) → after files (renamed waiting waiting) q ≡ files q
probed files waiting q = by (bytes_eq q waiting) refl where
  by : (b : Bool) → bytes_eq q waiting ≡ b → after files (renamed waiting waiting) q ≡ files q
  by true e = ap (λ b. cond b (files waiting) (put files waiting None q)) e ∙ ap files (sym ((bytes_eq-Decides q waiting).0 e))
  by false e = ap (λ b. cond b (files waiting) (cond b None (files q))) e

contents_probed : (files : Files) (waiting : List ℕ) (ns : List (List ℕ)) → contents (after files (renamed waiting waiting)) ns ≡ contents files ns
contents_probed files waiting [] = refl
contents_probed files waiting (n ∷ ns) =
    ap (λ (v : Option (List ℕ)). option_to_list v ++ contents (after files (renamed waiting waiting)) ns) (probed files waiting n)
    ∙ ap (λ (c : List (List ℕ)). option_to_list (files n) ++ c) (contents_probed files waiting ns)

ends_probed : (w : Window) (files : Files) (waiting : List ℕ) → ends w (after files (renamed waiting waiting)) ≡ ends w files
ends_probed w files waiting =
    ap (λ (c : List (List ℕ)). ends_of c (length (bytes_at (after files (renamed waiting waiting)) w.active))) (contents_probed files waiting (older_of w))
    ∙ ap (λ (v : Option (List ℕ)). ends_of (contents files (older_of w)) (length (unwrap_or v []))) (probed files waiting w.active)

-- so nothing is dropped
probe_in : (w : Window) (files : Files) (waiting : List ℕ) → SteppedIn Anywhere Anywhere w files (renamed waiting waiting ∷ [])
probe_in w files waiting =
    let keeps : kept w (after files (renamed waiting waiting)) ≡ kept w files ++ [] =
    ap (λ (c : List (List ℕ)). concat c) (contents_probed files waiting (names w)) ∙ sym (append-nil (kept w files)) in
    (((refl, λ _. (keeps, tt)), tt), λ _ places at are cut. (are, subst (AreAt places at) (sym (ends_probed w files waiting)) are))

-- The question

-- what it adds: nothing, where no file waits, and else a rename of that file to itself
abbrev pub Probed : List ℕ → Option Job → Files → List Change → Type 0
Probed waiting None files added = (added ≡ []) × (files waiting ≡ None)
Probed waiting (Some job) files added = (added ≡ renamed waiting waiting ∷ []) × IsSome (files waiting)

pub probed_moved : (waiting to : List ℕ) (job : Job) (d0 d1 : Disk) (at : Option (List ℕ)) → to ≡ waiting → Does d0 d1 (renamed to to ∷ []) d0.refusals at
    → (IsTrue d0.tells → IsSome (files_of d0 to)) → Calls d0 d1 (Probed waiting (Some job) (files_of d0))
probed_moved waiting to job d0 d1 at same does present =
    subst (λ (p : List ℕ). Calls d0 d1 (Probed p (Some job) (files_of d0))) same
    (calls_one d0 d1 at (Probed to (Some job) (files_of d0)) (renamed to to ∷ []) d0.refusals does (omega arith) (λ tells. (refl, present tells)))

pub probed_missing : (waiting to : List ℕ) (d0 d1 : Disk) (at : Option (List ℕ)) → to ≡ waiting → Does d0 d1 [] d0.refusals at → (IsTrue d0.tells → files_of d0 to ≡ None)
    → Calls d0 d1 (Probed waiting None (files_of d0))
probed_missing waiting to d0 d1 at same does absent =
    subst (λ (p : List ℕ). Calls d0 d1 (Probed p None (files_of d0))) same
    (calls_one d0 d1 at (Probed to None (files_of d0)) [] d0.refusals does (omega arith) (λ tells. (refl, absent tells)))

probed_in : (name : ℕ → List ℕ) (base count : ℕ) (file : List ℕ) (now : Option Job) (w : Window) (files : Files) (added : List Change) → w.active ≡ file → IsBegun file count now
    → Probed (waiting_name file) now files added → SteppedIn Anywhere (vacancy_of name base count now file) w files added
probed_in name base count file None w files added same its is =
    subst (SteppedIn Anywhere (VacantAt (waiting_name file)) w files) (sym is.0) (((refl, λ _. tt), λ _. is.1), λ _ places at are cut. are)
probed_in name base count file (Some job) w files added same its is =
    subst (λ (v : Vacancy). SteppedIn Anywhere v w files added) (sym (vacancy_begun name base count file job its.0 its.1))
    (subst (SteppedIn Anywhere Anywhere w files) (sym is.0) (probe_in w files (waiting_name file)))

probed_shown : (name : ℕ → List ℕ) (base count : ℕ) (file : List ℕ) (now : Option Job) (files : Files) (added : List Change) → let w = around (archive_names name base count) (Some (waiting_name file)) file in
    AreDistinct (names w) → IsBegun file count now → Probed (waiting_name file) now files added → StaysIn Anywhere (vacancy_of name base count now file) w files added
probed_shown name base count file None files added distinct its is =
    subst (StaysIn Anywhere (VacantAt (waiting_name file)) (around (archive_names name base count) (Some (waiting_name file)) file) files) (sym is.0)
    (probe_missing (archive_names name base count) (waiting_name file) file files distinct is.1)
probed_shown name base count file (Some job) files added distinct its is =
    let w = around (archive_names name base count) (Some (waiting_name file)) file in
    subst (λ (v : Vacancy). StaysIn Anywhere v w files added) (sym (vacancy_begun name base count file job its.0 its.1))
    (stays_same Anywhere w files added (λ q. ap (λ (c : List Change). replay files c q) is.0 ∙ probed files (waiting_name file) q))

probed_silent : (waiting : List ℕ) (now : Option Job) (files : Files) (added : List Change) → Probed waiting now files added → Silent added × NoCopies added
probed_silent waiting None files added is = subst (λ (c : List Change). Silent c × NoCopies c) (sym is.0) ((λ path. refl), tt)
probed_silent waiting (Some job) files added is = subst (λ (c : List Change). Silent c × NoCopies c) (sym is.0) ((λ path. refl), tt)

probed_of : (ns : List (List ℕ)) (waiting : List ℕ) (now : Option Job) (files : Files) (added : List Change) → IsAmong waiting ns → Probed waiting now files added → OnlyOf ns added
probed_of ns waiting None files added there is = subst (OnlyOf ns) (sym is.0) tt
probed_of ns waiting (Some job) files added there is = subst (OnlyOf ns) (sym is.0) ((there, there), tt)

less_one : (v : Vacancy) → drops_into v ≤ 1
less_one Anywhere = omega arith
less_one (VacantAt name) = omega arith
less_one OfAnother = omega arith

asked_once : (name : ℕ → List ℕ) (base count : ℕ) (rename_only : Bool) (now : Option Job) (file : List ℕ) (d0 d1 : Disk) → IsBegun file count now
    → Calls d0 d1 (Probed (waiting_name file) now (files_of d0)) → LeavesOpen d0 d1
    → SteppedAt (window_with name base count rename_only true false None) (window_with name base count rename_only true true now) file d0 d1
asked_once name base count rename_only now file d0 d1 its calls left =
    let waiting = waiting_name file in
    let k : Keeping = window_with name base count rename_only true false None in
    let v : Vacancy = vacancy_of name base count now file in
    let older = unwrap_or (archives_of name base count) [] in
    let there : IsAmong waiting (names_of k file) = among_front waiting (older ++ waiting ∷ []) (file ∷ []) (among_behind waiting older (waiting ∷ []) (inl refl)) in
    record {
      kept = archives_some name base count
          (λ older. let window = around older (Some waiting) file in Stands window Anywhere d0 → (drops_into v ≤ 1) × Calls d0 d1 (SteppedIn Anywhere v window (files_of d0)))
          (λ stands. (
            less_one v,
            calls_map d0 d1 _ _ calls (λ added tells told is. probed_in name base count file now (around (archive_names name base count) (Some waiting) file) (files_of d0) added refl its is),
          ));
      shown = archives_some name base count
          (λ older. let window = around older (Some waiting) file in Stands window Anywhere d0 → Calls d0 d1 (StaysIn Anywhere v window (files_of d0)))
          (λ stands. calls_map d0 d1 _ _ calls (λ added tells told is. probed_shown name base count file now (files_of d0) added stands.0 its is));
      silent = λ built. calls_map d0 d1 _ Silent calls (λ added tells told is. (probed_silent waiting now (files_of d0) added is).0);
      renames = λ only. calls_map d0 d1 _ NoCopies calls (λ added tells told is. (probed_silent waiting now (files_of d0) added is).1);
      copies = λ built none. calls_map d0 d1 _ NoCopies calls (λ added tells told is. (probed_silent waiting now (files_of d0) added is).1);
      elsewhere = λ ours. (begun_ours name base count file now its, λ built. calls_map d0 d1 _ (OnlyOf (names_of k file)) calls (λ added tells told is. probed_of (names_of k file) waiting now (files_of d0) added there is));
      names = record { is_built_in = refl; renames = refl; removes = refl; archives = refl; waiting = refl; moves = λ path none. cc; told = λ path known. absurd (search rules) };
      left = left;
      store = calls_map d0 d1 _ (λ added. Unit {0}) calls (λ added tells told is. tt);
    }

-- a roller that nobody asked has no job
pub no_job_unasked : (roller : FixedWindowRoller) → roller.asked ≡ false → roller.job ≡ None
no_job_unasked roller not = by roller.job refl where
  clash : true ≡ false → ⊥
  clash e = cc

  by : (job : Option Job) → roller.job ≡ job → roller.job ≡ None
  by None is = is
  by (Some job) is = absurd (clash (sym (roller.in_steps job is).1 ∙ not))

-- what is kept by a roller in the background that was asked, with this job
abbrev pub kept_asked : FixedWindowRoller → Option Job → Keeping
kept_asked roller job = window_with (archive_name roller) roller.base roller.count roller.rename_only roller.background true job

pub roller_asked : (roller : FixedWindowRoller) (now : Option Job) (file : List ℕ) (d0 d1 : Disk) → IsTrue roller.background → roller.asked ≡ false → roller.job ≡ None → IsBegun file roller.count now
    → Calls d0 d1 (Probed (waiting_name file) now (files_of d0)) → LeavesOpen d0 d1 → SteppedAt (kept_by roller) (kept_asked roller now) file d0 d1
roller_asked roller now file d0 d1 on not none its calls left =
    let K : Bool → Bool → Option Job → Keeping = λ b a j. window_with (archive_name roller) roller.base roller.count roller.rename_only b a j in
    subst (λ (j : Option Job). SteppedAt (K roller.background roller.asked j) (K roller.background true now) file d0 d1) (sym none)
    (subst (λ (a : Bool). SteppedAt (K roller.background a None) (K roller.background true now) file d0 d1) (sym not)
    (subst (λ (b : Bool). SteppedAt (K b false None) (K b true now) file d0 d1) (sym on)
    (asked_once (archive_name roller) roller.base roller.count roller.rename_only now file d0 d1 its calls left)))

-- The moves of a rolling behind what was left: they are known where somebody asked before

pub aside_moves : (roller : FixedWindowRoller) (file : List ℕ) (r : Result Unit LogError) (d0 d1 d2 : Disk) → IsTrue roller.background
    → (IsTrue roller.asked → Calls d0 d1 (MovedAll (files_of d0) (rest_by roller)))
    → OnOk r (Calls d1 d2 (λ added. Moved (files_of d1) file (waiting_name file) added × NoCopies added))
    → IfSome ((kept_by roller).moves file) (λ moves. OnOk r (Calls d0 d2 (MovedAll (files_of d0) moves)))
aside_moves roller file r d0 d1 d2 on driven aside = by roller.asked refl where
  by : (a : Bool) → roller.asked ≡ a → IfSome ((kept_by roller).moves file) (λ moves. OnOk r (Calls d0 d2 (MovedAll (files_of d0) moves)))
  by true is = begun_moves roller file r d0 d1 d2 on is (driven is) aside
  by false is =
      subst (λ (b : Bool). IfSome (rolling_if b roller.asked (archive_name roller) roller.base roller.count roller.job file) (λ moves. OnOk r (Calls d0 d2 (MovedAll (files_of d0) moves)))) (sym on)
      (subst (λ (a : Bool). IfSome (rolling_if true a (archive_name roller) roller.base roller.count roller.job file) (λ moves. OnOk r (Calls d0 d2 (MovedAll (files_of d0) moves)))) (sym is) tt)

-- One that works at once, or keeps none

-- Results of openings

pub ok_map : {T E : Type 0} (r : Result T E) (P Q : T → Type 0) → IfOk r P → ((t : T) → P t → Q t) → IfOk r Q
ok_map (Ok t) P Q is f = f t is
ok_map (Err e) P Q is f = tt

-- the question for a path that is the same one
pub asked_at : (k0 k1 : Keeping) (path other : List ℕ) (d0 d1 : Disk) → other ≡ path → SteppedAt k0 k1 other d0 d1 → SteppedAt k0 k1 path d0 d1
asked_at k0 k1 path other d0 d1 same stepped = subst (λ (p : List ℕ). SteppedAt k0 k1 p d0 d1) same stepped

-- a call that left the store as it was
pub still_nothing : (d0 d1 : Disk) → d1 ≡ d0 → Calls d0 d1 (λ added. added ≡ [])
still_nothing d0 d1 same = subst (λ (d : Disk). Calls d0 d (λ added. added ≡ [])) (sym same) (calls_none d0 (λ added. added ≡ []) refl)

-- the same of all that is told of it
pub ready_at : (k0 k1 : Keeping) (path other : List ℕ) (r : Result Unit LogError) (d0 d1 : Disk) → other ≡ path → Readied k0 k1 other r d0 d1 → Readied k0 k1 path r d0 d1
ready_at k0 k1 path other r d0 d1 same ready = subst (λ (p : List ℕ). Readied k0 k1 p r d0 d1) same ready

-- a question, and one opening behind it
pub asked_then_opened : (k0 k1 : Keeping) (path : List ℕ) (append : Bool) (u : Unit {0}) (d0 d1 d2 : Disk) → Readied k0 k1 path (Ok u) d0 d1 → (RollsAtOnce k0 path → d1 ≡ d0)
    → Does d1 d2 (opened path (way append) ∷ []) d1.refusals (Some path) → AskedThenOpened k0 k1 path append d0 d2
asked_then_opened k0 k1 path append u d0 d1 d2 ready same does = record {
  asked = d1;
  stepped = ready.steps;
  moved = λ built. (ready.made built).moves.all;
  idle = λ once. still_nothing d0 d1 (same once);
  opens = does;
  at_once = λ once. subst (λ (d : Disk). Does d d2 (opened path (way append) ∷ []) d.refusals (Some path)) (same once) does;
  looked = λ built. (ready.made built).looked;
  told = λ built some. (ready.made built).told some;
  shown = λ built not on. start_opened k0 path append d0 d1 d2 on ((ready.made built).shown not) does;
  unrefused = λ built. does.refusals ∙ (ready.made built).unrefused;
}

pub asked_then_tried : (k0 k1 : Keeping) (path : List ℕ) (append : Bool) (d0 d1 d2 : Disk) → SteppedAt k0 k1 path d0 d1 → (IsTrue k0.is_built_in → Calls d0 d1 (MadeReadyPartly k0 path (files_of d0)))
    → (RollsAtOnce k0 path → Calls d0 d1 (λ added. added ≡ [])) → Calls d1 d2 (OnlyOpens path (way append)) → AskedThenTried k0 path append d0 d2
asked_then_tried k0 k1 path append d0 d1 d2 stepped moved idle opens = record { now = k1; asked = d1; stepped = stepped; moved = moved; idle = idle; opens = opens }

-- a window has archives
pub some_count : (name : ℕ → List ℕ) (base count : ℕ) → IsSome (archives_of name base count) → 0 < count
some_count name base zero is = absurd (search rules)
some_count name base (suc n) is = omega arith

-- an answer that is no Ok
pub not_well : false ≡ true → ⊥
not_well e = cc

some_moves : (b a : Bool) (name : ℕ → List ℕ) (base count : ℕ) (job : Option Job) (path : List ℕ) → (IsTrue b → IsTrue a) → 0 < count → IsSome (rolling_if b a name base count job path)
some_moves b a name base zero job path knows some = absurd (omega arith)
some_moves true true name base (suc n) job path knows some = refl
some_moves true false name base (suc n) job path knows some = absurd (not_well (knows refl))
some_moves false a name base (suc n) job path knows some = refl

-- the moves of a rolling are told, in the background once somebody asked
pub moves_then : (r0 r1 : FixedWindowRoller) (path : List ℕ) → SameNames (kept_by r0) (kept_by r1) → IsSome (kept_by r0).archives → (IsTrue r0.background → IsTrue r1.asked) → IsSome ((kept_by r1).moves path)
moves_then r0 r1 path names some knows =
    some_moves r1.background r1.asked (archive_name r1) r1.base r1.count r1.job path (λ on. knows (was_background r0 r1 names on))
    (still_some r0 r1 names (some_count (archive_name r0) r0.base r0.count some))

-- who asked, and has nothing left, has looked
pub looked_then : (r0 r1 : FixedWindowRoller) (path : List ℕ) → SameNames (kept_by r0) (kept_by r1) → (IsTrue r0.background → 0 < r0.count → IsTrue r1.asked) → r1.job ≡ None → HasLooked (kept_by r0) (kept_by r1) path
looked_then r0 r1 path names knows none = λ some. by r0.background refl some where
  by : (b : Bool) → r0.background ≡ b → IsSome (kept_by r0).archives
      → IfSome (waiting_if b path) (λ waiting. ((kept_by r1).vacant path ≡ VacantAt waiting) × IsSome ((kept_by r1).moves path))
  by true on some =
      let asked : IsTrue r1.asked = knows on (some_count (archive_name r0) r0.base r0.count some) in (
        vacant_now r1.background r1.asked (archive_name r1) r1.base r1.count r1.job path (still_background r0 r1 names on) asked none,
        moves_then r0 r1 path names some (λ on. asked),
      )
  by false off some = tt

pub looked_ok : {E : Type 0} (r : Result Unit E) (r0 r1 : FixedWindowRoller) (path : List ℕ) → SameNames (kept_by r0) (kept_by r1) → (IsTrue r0.background → 0 < r0.count → OnOk r (IsTrue r1.asked)) → OnOk r (r1.job ≡ None)
    → OnOk r (HasLooked (kept_by r0) (kept_by r1) path)
looked_ok (Ok t) r0 r1 path names knows none = looked_then r0 r1 path names knows none
looked_ok (Err e) r0 r1 path names knows none = tt

pub told_ok : {E : Type 0} (r : Result Unit E) (r0 r1 : FixedWindowRoller) (path : List ℕ) → SameNames (kept_by r0) (kept_by r1) → IsSome (kept_by r0).archives
    → (IsTrue r0.background → 0 < r0.count → OnOk r (IsTrue r1.asked)) → OnOk r (IsSome ((kept_by r1).moves path))
told_ok (Ok t) r0 r1 path names some knows = moves_then r0 r1 path names some (λ on. knows on (some_count (archive_name r0) r0.base r0.count some))
told_ok (Err e) r0 r1 path names some knows = tt
