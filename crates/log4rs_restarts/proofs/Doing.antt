-- Runs, one after another.
use Rattle.std.proofs.Common.{◌≡◌, ◌≤◌, ◌∙◌, ℕ, zero, suc, List, [], ◌∷◌, ◌++◌, Bool, Option, Some, None, IfSome, IsSome, IsTrue, true, Result, Ok, Err, is_ok, OnOk, OnErr, false, if◌then◌else◌, refl, sym, ap, subst, append_assoc, length, take, get_or, arith, ◌<◌, ◌+◌}
use Rattle.std.proofs.lemmas.List.{append-nil, take_more}
use Rattle.log4rs_rolling.specs.Change.{Change, opened, Files, replay}
use Rattle.log4rs_rolling.specs.Disk.{Disk, Does, Told, Calls, files_of}
use Rattle.log4rs_restarts.specs.declared.run.Act.{Act}
use Rattle.log4rs_restarts.specs.declared.run.ActOutcome.{ActOutcome}
use Rattle.log4rs_rolling.specs.declared.store.Open.TheVariants.{Append}
use Rattle.log4rs_rolling.specs.Window.{Window, NoCopies, AreDistinct, Vacancy, Anywhere, VacantAt, OfAnother, Vacant, around, names, drops_into, NoGaps}
use Rattle.log4rs_rolling.specs.AtOpening.{AskedThenOpened, AskedThenTried, RollsAtOnce, found_moves, opening_moves}
use Rattle.log4rs_rolling.specs.Moves.{MovedAll, MovedPartly}
use Rattle.log4rs_rolling.specs.ArchiveEnds.{older_of}
use Rattle.log4rs_rolling.specs.Segments.{Shows, begun}
use Rattle.log4rs_rolling.specs.SegmentGrowth.{ShowsFromStart}
use Rattle.log4rs_rolling.proofs.Both.{calls_both}
use Rattle.log4rs_rolling.specs.FileChanges.{OnlyOpens}
use Rattle.log4rs_rolling.specs.Appends.{Reading}
use Rattle.log4rs_rolling.proofs.Calls.{files_after, calls_one, calls_map, calls_join}
use Rattle.log4rs_rolling.proofs.Found.{nothing_yet}
use Rattle.log4rs_rolling.proofs.Windows.{NoCopies-append}
use Rattle.log4rs_rolling.proofs.Parts.{if_map, if_all, opens_apart, stands_on}
use Rattle.log4rs_rolling.specs.Keeping.{Keeping, Stands, SteppedAt, SteppedIn}
use Rattle.log4rs_restarts.specs.Stops.{Changed, Start, marked}
use Rattle.log4rs_restarts.proofs.Spending.{start_same, unmarked}
use Rattle.log4rs_restarts.specs.Acts.{BuiltIn, RunDone, changes_in, AreEffects, AreDone, at_rest, vacant_if}
use Rattle.log4rs_restarts.specs.Reports.{acts_in}
use Rattle.log4rs_restarts.specs.Runs.{IsRun, IsReady, AreReady, HaveRoom}
use Rattle.log4rs_restarts.specs.declared.run.OpeningError.{OpeningError}
use Rattle.log4rs_restarts.specs.declared.run.Run.{Run}
use Rattle.log4rs_restarts.specs.declared.run.RunReport.{RunReport}
use Rattle.log4rs_restarts.proofs.Adding.{ActedOver}
use Rattle.log4rs_restarts.proofs.Stepping.{goes_as}

pub changed_none : (P : List Change → Type 0) (disk : Disk) → P [] → Changed disk disk P
changed_none P disk none = record { tells = refl; told = λ tells. ([], record { start = refl; changes = sym (append-nil disk.changes) }, none) }

pub changed_join : (d0 d1 d2 : Disk) (P Q R : List Change → Type 0) → Changed d0 d1 P → Changed d1 d2 Q
    → ((xs ys : List Change) → IsTrue d0.tells → Told d0 d1 xs → P xs → Q ys → R (xs ++ ys)) → Changed d0 d2 R
changed_join d0 d1 d2 P Q R before now step =
    record {
      tells = now.tells ∙ before.tells;
      told = λ tells.
          let was = before.told tells in
          let is = now.told (subst IsTrue (sym before.tells) tells) in (
            was.0 ++ is.0,
            record {
              start = is.1.start ∙ was.1.start;
              changes = is.1.changes ∙ ap (λ (c : List Change). c ++ is.0) was.1.changes ∙ append_assoc d0.changes was.0 is.0;
            },
            step was.0 is.0 tells was.1 was.2 is.2,
          );
    }

pub changed_map : (d0 d1 : Disk) (P Q : List Change → Type 0) → Changed d0 d1 P → ((added : List Change) → P added → Q added) → Changed d0 d1 Q
changed_map d0 d1 P Q p step = record { tells = p.tells; told = λ tells. let x = p.told tells in (x.0, x.1, step x.0 x.2) }

-- a store that was closed
pub closed : (d0 d1 : Disk) → Does d0 d1 [] d0.refusals None → Changed d0 d1 (λ added. added ≡ [])
closed d0 d1 does = record { tells = does.tells; told = λ tells. ([], does.told tells, refl) }

pub calls_changed : (d0 d1 : Disk) (P : List Change → Type 0) → Calls d0 d1 P → Changed d0 d1 P
calls_changed d0 d1 P calls = record { tells = calls.tells; told = calls.told }

-- what a store that stops shows is so of the store in it
pub changed_by : (m0 m1 : Start) (r0 r1 n0 n1 : ℕ) (d0 d1 : Disk) (P : List Change → Type 0) → Changed (marked m0 r0 n0 d0) (marked m1 r1 n1 d1) P → Changed d0 d1 P
changed_by m0 m1 r0 r1 n0 n1 d0 d1 P calls =
    record { tells = calls.tells; told = λ tells. let was = calls.told tells in (was.0, unmarked m0 m1 r0 r1 n0 n1 d0 d1 was.0 was.1, was.2) }

-- the mark of a store that stops stays
pub same_mark : (m0 m1 : Start) (r0 r1 n0 n1 : ℕ) (d0 d1 : Disk) (P : List Change → Type 0) → Changed (marked m0 r0 n0 d0) (marked m1 r1 n1 d1) P → IsTrue d0.tells → m1 ≡ m0
same_mark m0 m1 r0 r1 n0 n1 d0 d1 P calls tells = let was = calls.told tells in start_same m0 m1 r0 r1 n0 n1 d0 d1 was.0 was.1

pub then_none : (d0 d1 d2 : Disk) (P : List Change → Type 0) → Changed d0 d1 P → Changed d1 d2 (λ added. added ≡ []) → Changed d0 d2 P
then_none d0 d1 d2 P before none = changed_join d0 d1 d2 P (λ added. added ≡ []) P before none (λ xs ys tells told x y. subst P (sym (ap (λ (c : List Change). xs ++ c) y ∙ append-nil xs)) x)

pub clean_join : (d0 d1 d2 : Disk) → Changed d0 d1 NoCopies → Changed d1 d2 NoCopies → Changed d0 d2 NoCopies
clean_join d0 d1 d2 before now = changed_join d0 d1 d2 NoCopies NoCopies NoCopies before now (λ xs ys tells told x y. NoCopies-append xs ys x y)

-- no change copies
pub none_clean : (d0 d1 : Disk) → Changed d0 d1 (λ added. added ≡ []) → Changed d0 d1 NoCopies
none_clean d0 d1 none =
    record { tells = none.tells; told = λ tells. let was = none.told tells in (was.0, was.1, subst NoCopies (sym was.2) tt) }

pub calls_clean : (d0 d1 d2 : Disk) → Calls d0 d1 NoCopies → Calls d1 d2 NoCopies → Calls d0 d2 NoCopies
calls_clean d0 d1 d2 before now = calls_join d0 d1 d2 NoCopies NoCopies NoCopies before now (λ xs ys tells told x y. NoCopies-append xs ys x y)

-- calls on a store that is closed then
closes_map : (d0 d1 d2 : Disk) (P Q : List Change → Type 0) → ((added : List Change) → P added → Q added) → Calls d0 d1 P → Does d1 d2 [] d1.refusals None → Calls d0 d2 Q
closes_map d0 d1 d2 P Q step calls closes =
    calls_join d0 d1 d2 P (λ added. added ≡ []) Q calls (calls_one d1 d2 None (λ added. added ≡ []) [] d1.refusals closes (omega arith) (λ tells. refl))
    (λ xs ys tells told x y. subst Q (sym (ap (λ (c : List Change). xs ++ c) y ∙ append-nil xs)) (step xs x))

pub closes_clean : (d0 d1 d2 : Disk) → Calls d0 d1 NoCopies → Does d1 d2 [] d1.refusals None → Calls d0 d2 NoCopies
closes_clean d0 d1 d2 calls closes = closes_map d0 d1 d2 NoCopies NoCopies (λ added x. x) calls closes

pub closes_any : (d0 d1 d2 : Disk) (P : List Change → Type 0) → Calls d0 d1 P → Does d1 d2 [] d1.refusals None → Calls d0 d2 (λ _. Unit {0})
closes_any d0 d1 d2 P calls closes = closes_map d0 d1 d2 P (λ _. Unit {0}) (λ added x. tt) calls closes

-- one run was done
pub record Done
    (Starts : BuiltIn → Type 0) (reading : Option Reading) (window : Window) (files : Files)
    (acts : List Act) (report : RunReport) (added : List Change) : Type 0 where
  pub run : RunDone
  pub all : added ≡ changes_in run
  pub is : IsRun Starts reading window files acts report run

-- all moves of the rotation of a waiting file, or a beginning of them
abbrev Moves : Type 1
Moves = Files → List (List ℕ × List ℕ) → List Change → Type 0

-- what was done about a rolling that was left: it keeps the window, makes these moves, and where
-- rollings are made at once there is none
record Asked (Made : Moves) (v : Vacancy) (w : Window) (files : Files) (added : List Change) : Type 0 where
  pub stepped : SteppedIn Anywhere v w files added
  pub idle : w.waiting ≡ None → added ≡ []
  pub moves : Made files (found_moves (Some w.archives) w.waiting files) added

-- a run that was not opened
not_opened : (Starts : BuiltIn → Type 0) (reading : Option Reading) (w : Window) (files : Files) (acts : List Act) (report : RunReport) (error : OpeningError) (v : Vacancy) (asked opening : List Change)
    → report.opening ≡ Err error → report.outcomes.items ≡ [] → report.answers.items ≡ []
    → Asked MovedPartly v w files asked → OnlyOpens w.active Append opening
    → Done Starts reading w files acts report (asked ++ opening)
not_opened Starts reading w files acts report error v asked opening is no_outcomes no_answers does opens =
    record {
      run = record { asked = asked; vacancy = v; opening = opening; effects = [] };
      all = sym (append-nil (asked ++ opening));
      is = record {
        asked = does.stepped;
        moved = subst (λ (r : Result Unit OpeningError). OnOk r (MovedAll files (found_moves (Some w.archives) w.waiting files) asked)) (sym is) tt;
        partly = subst (λ (r : Result Unit OpeningError). OnErr r (MovedPartly files (found_moves (Some w.archives) w.waiting files) asked)) (sym is) does.moves;
        idle = does.idle;
        rests = subst (λ (r : Result Unit OpeningError). OnOk r (v ≡ at_rest w)) (sym is) tt;
        shows = subst (λ (r : Result Unit OpeningError). OnOk r (NoGaps files w.archives → Shows (begun (older_of w) w.active files) w.archives w.active (replay files (asked ++ opening)))) (sym is) tt;
        opens = opens;
        opened = subst (λ (r : Result Unit OpeningError). OnOk r (opening ≡ opened w.active Append ∷ [])) (sym is) tt;
        acted = ap (λ (r : Result Unit OpeningError). acts_in (is_ok r) acts) (sym is);
        effects = tt;
        triggers = tt;
        vacant = tt;
        outcomes = no_outcomes;
        answers = no_answers;
      };
    }

abbrev pub DoneIn : Option (List ℕ) → (BuiltIn → Type 0) → Option Reading → List ℕ → List Act → RunReport → Disk → Disk → List (List ℕ) → Type 0
DoneIn waits Starts reading path acts report d0 d1 older =
    let window = around older waits path in AreDistinct (names window) → Changed d0 d1 (Done Starts reading window (files_of d0) acts report)

-- What was done about a rolling that was left

with_idle : (waits : Option (List ℕ)) (P : List Change → Type 0) (d0 d1 : Disk) → Calls d0 d1 P → (waits ≡ None → Calls d0 d1 (λ added. added ≡ [])) → Calls d0 d1 (λ added. P added × (waits ≡ None → added ≡ []))
with_idle None P d0 d1 calls idle =
    calls_map d0 d1 _ (λ added. P added × (None ≡ None → added ≡ [])) (calls_both d0 d1 P (λ added. added ≡ []) calls (idle refl)) (λ added tells told both. (both.0, λ none. both.1))
with_idle (Some name) P d0 d1 calls idle = calls_map d0 d1 P (λ added. P added × (Some name ≡ None → added ≡ [])) calls (λ added tells told is. (is, λ none. cc))

-- the moves of a roller that nobody asked before are those of a waiting file
found_of : (Made : Moves) (o : Option (List (List ℕ))) (waits : Option (List ℕ)) (d0 d1 : Disk) → Calls d0 d1 (Made (files_of d0) (found_moves o waits (files_of d0)))
    → IfSome o (λ older. Calls d0 d1 (Made (files_of d0) (found_moves (Some older) waits (files_of d0))))
found_of Made None waits d0 d1 calls = tt
found_of Made (Some older) waits d0 d1 calls = calls

unasked_moves : (Made : Moves) (k : Keeping) (path : List ℕ) (d0 d1 : Disk) → k.asked ≡ false → Calls d0 d1 (Made (files_of d0) (opening_moves k path (files_of d0)))
    → IfSome k.archives (λ older. Calls d0 d1 (Made (files_of d0) (found_moves (Some older) (k.waiting path) (files_of d0))))
unasked_moves Made k path d0 d1 not calls =
    found_of Made k.archives (k.waiting path) d0 d1
    (subst (λ (a : Bool). Calls d0 d1 (Made (files_of d0) (if a then k.rest else found_moves k.archives (k.waiting path) (files_of d0)))) not calls)

both_some : {X : Type 0} (o : Option X) (P Q R : X → Type 0) → IfSome o P → IfSome o Q → ((x : X) → P x → Q x → R x) → IfSome o R
both_some None P Q R p q f = tt
both_some (Some x) P Q R p q f = f x p q

-- of a built-in roller that nobody asked before
asked_in : (Made : Moves) (k now : Keeping) (path : List ℕ) (d0 d1 : Disk) → IsTrue k.is_built_in → k.asked ≡ false → k.vacant path ≡ Anywhere → SteppedAt k now path d0 d1 → (RollsAtOnce k path → Calls d0 d1 (λ added. added ≡ []))
    → Calls d0 d1 (Made (files_of d0) (opening_moves k path (files_of d0)))
    → IfSome k.archives (λ older. let w = around older (k.waiting path) path in AreDistinct (names w) → Calls d0 d1 (Asked Made (now.vacant path) w (files_of d0)))
asked_in Made k now path d0 d1 built not free stepped idle moved =
    let v = now.vacant path in
    let Kept : Vacancy → List (List ℕ) → Type 0 = λ u older.
    let w = around older (k.waiting path) path in Stands w u d0 → (drops_into v ≤ drops_into u) × Calls d0 d1 (SteppedIn u v w (files_of d0)) in
    both_some k.archives (Kept Anywhere) (λ older. Calls d0 d1 (Made (files_of d0) (found_moves (Some older) (k.waiting path) (files_of d0))))
    (λ older. let w = around older (k.waiting path) path in AreDistinct (names w) → Calls d0 d1 (Asked Made v w (files_of d0)))
    (subst (λ (u : Vacancy). IfSome k.archives (Kept u)) free stepped.kept) (unasked_moves Made k path d0 d1 not moved)
    (λ older kept moves. λ distinct.
    let w = around older (k.waiting path) path in
    calls_map d0 d1 _ (Asked Made v w (files_of d0))
    (calls_both d0 d1 _ _ (with_idle (k.waiting path) (SteppedIn Anywhere v w (files_of d0)) d0 d1 (kept (distinct, λ tells. tt)).1 (λ none. idle (built, none))) moves)
    (λ added tells told is. record { stepped = is.0.0; idle = is.0.1; moves = is.1 }))

-- a run in which the opening was refused: the store is handed back and closed
pub run_fails : (k : Keeping) (Starts : BuiltIn → Type 0) (reading : Option Reading) (path : List ℕ) (acts : List Act) (report : RunReport) (error : OpeningError) (d0 d1 d2 : Disk)
    → IsTrue k.is_built_in → k.asked ≡ false → k.vacant path ≡ Anywhere → report.opening ≡ Err error → report.outcomes.items ≡ [] → report.answers.items ≡ []
    → AskedThenTried k path true d0 d1 → Does d1 d2 [] d1.refusals None
    → IfSome k.archives (DoneIn (k.waiting path) Starts reading path acts report d0 d2)
run_fails k Starts reading path acts report error d0 d1 d2 built not free is no_outcomes no_answers tried closes =
    let v = tried.now.vacant path in
    let da = tried.asked in
    if_map k.archives (λ older. let w = around older (k.waiting path) path in AreDistinct (names w) → Calls d0 da (Asked MovedPartly v w (files_of d0)))
    (DoneIn (k.waiting path) Starts reading path acts report d0 d2) (asked_in MovedPartly k tried.now path d0 da built not free tried.stepped tried.idle (tried.moved built))
    (λ older asked. λ distinct.
    let w = around older (k.waiting path) path in
    let Ran : List Change → Type 0 = Done Starts reading w (files_of d0) acts report in
    then_none d0 d1 d2 Ran
    (calls_changed d0 d1 Ran (calls_join d0 da d1 (Asked MovedPartly v w (files_of d0)) (OnlyOpens path Append) Ran (asked distinct) tried.opens
    (λ xs ys tells told x y. not_opened Starts reading w (files_of d0) acts report error v xs ys is no_outcomes no_answers x y)))
    (closed d1 d2 closes))

-- a window stands behind the opening of its file
opens_vacant : (v : Vacancy) (files : Files) (path : List ℕ) (added : List Change) → OnlyOpens path Append added → Vacant v path files → Vacant v path (replay files added)
opens_vacant Anywhere files path added only vacant = tt
opens_vacant OfAnother files path added only vacant = vacant
opens_vacant (VacantAt name) files path added only vacant = λ other. opens_apart files path Append added name only other ∙ vacant other

opened_stands : (w : Window) (v : Vacancy) (d0 d1 : Disk) → Stands w v d0 → Calls d0 d1 (λ added. added ≡ opened w.active Append ∷ []) → Stands w v d1
opened_stands w v d0 d1 stands opens = (
  stands.0,
  λ tells1.
      let tells = subst IsTrue opens.tells tells1 in
      let was = opens.told tells in
      subst (Vacant v w.active) (sym (files_after d0 d1 was.0 was.1))
      (opens_vacant v (files_of d0) w.active was.0 (subst (OnlyOpens w.active Append) (sym was.2) (refl, refl, tt)) (stands.1 tells)),
)

-- the segments of a start are those that the archives show
abbrev ShowsBegun : Window → Files → List Change → Type 0
ShowsBegun w files added = NoGaps files w.archives → Shows (begun (older_of w) w.active files) w.archives w.active (replay files added)

-- an asking, and then one opening
abbrev Opened : Vacancy → Window → Files → List Change → Type 0
Opened v w files added = (asked : List Change) × (opening : List Change) × (added ≡ asked ++ opening) × Asked MovedAll v w files asked × (opening ≡ opened w.active Append ∷ [])

-- the segments of a start, of a roller that nobody asked before
start_in : (k : Keeping) (path : List ℕ) (d0 d1 : Disk) → k.vacant path ≡ Anywhere → ShowsFromStart k path d0 d1
    → IfSome k.archives (λ older. let w = around older (k.waiting path) path in AreDistinct (names w) → Calls d0 d1 (ShowsBegun w (files_of d0)))
start_in k path d0 d1 free start =
    let Of : Vacancy → List (List ℕ) → Type 0 = λ u older. let w = around older (k.waiting path) path in Stands w u d0 → Calls d0 d1 (ShowsBegun w (files_of d0)) in
    if_map k.archives (Of Anywhere) (λ older. let w = around older (k.waiting path) path in AreDistinct (names w) → Calls d0 d1 (ShowsBegun w (files_of d0)))
    (subst (λ (u : Vacancy). IfSome k.archives (Of u)) free start)
    (λ older p. λ distinct. p (distinct, λ tells. tt))

-- what a run changed before its acts, where its file was opened
record Begun (v : Vacancy) (w : Window) (files : Files) (added : List Change) : Type 0 where
  pub asked : List Change
  pub opening : List Change
  pub all : added ≡ asked ++ opening
  pub does : Asked MovedAll v w files asked
  pub opens : opening ≡ opened w.active Append ∷ []
  pub shows : ShowsBegun w files added

-- a run that was opened
pub run_goes : (k k1 : Keeping) (first first1 : BuiltIn) (reading : Option Reading) (path path1 : List ℕ) (acts : List Act) (report : RunReport) (outcomes : List ActOutcome) (answers : List Bool) (d0 d1 d2 d3 : Disk)
    → IsTrue k.is_built_in → k.asked ≡ false → k.vacant path ≡ Anywhere → (IsSome k.archives → k1.vacant path ≡ vacant_if (k1.waiting path))
    → first1 ≡ first → path1 ≡ path → report.opening ≡ Ok _ → report.outcomes.items ≡ outcomes → report.answers.items ≡ answers
    → AskedThenOpened k k1 path true d0 d1 → ShowsFromStart k path d0 d1
    → ActedOver k1 first1 reading path1 acts outcomes answers d1 d2
    → Does d2 d3 [] d2.refusals None
    → IfSome k.archives (DoneIn (k.waiting path) (λ trigger. trigger ≡ first) reading path acts report d0 d3)
run_goes k k1 first first1 reading path path1 acts report outcomes answers d0 d1 d2 d3 built not free rests same_first same_path is_open has said began start acted closes =
    let v = k1.vacant path in
    let da = began.asked in
    let names_kept = began.stepped.names in
    let Acts : Option (List (List ℕ)) → (List ℕ → Option (List ℕ)) → BuiltIn → List ℕ → Type 0 = λ o f t p.
    IfSome o (λ older. let w = around older (f p) p in Stands w (at_rest w) d1 → Calls d1 d2 (AreDone t reading w (files_of d1) acts outcomes answers)) in
    let now : Acts k.archives k.waiting first path =
    subst (λ (p : List ℕ). Acts k.archives k.waiting first p) same_path
    (subst (λ (t : BuiltIn). Acts k.archives k.waiting t path1) same_first
    (subst (λ (o : Option (List (List ℕ))). Acts o k.waiting first1 path1) names_kept.archives
    (subst (λ (f : List ℕ → Option (List ℕ)). Acts k1.archives f first1 path1) names_kept.waiting acted))) in
    let One : List Change → Type 0 = λ added. added ≡ opened path Append ∷ [] in
    let opens : Calls da d1 One = calls_one da d1 (Some path) One (opened path Append ∷ []) da.refusals began.opens (omega arith) (λ tells. refl) in
    some_both k.archives (λ older. let w = around older (k.waiting path) path in AreDistinct (names w) → Calls d0 da (Asked MovedAll v w (files_of d0)))
    (λ older. let w = around older (k.waiting path) path in Stands w (at_rest w) d1 → Calls d1 d2 (AreDone first reading w (files_of d1) acts outcomes answers))
    (v ≡ vacant_if (k1.waiting path)) (λ older. let w = around older (k.waiting path) path in AreDistinct (names w) → Calls d0 d1 (ShowsBegun w (files_of d0))) (DoneIn (k.waiting path) (λ trigger. trigger ≡ first) reading path acts report d0 d3)
    (asked_in MovedAll k k1 path d0 da built not free began.stepped began.idle (began.moved built)) now rests (start_in k path d0 d1 free start)
    (λ older asked p resting shows. λ distinct.
    let w = around older (k.waiting path) path in
    let rest : v ≡ at_rest w = resting ∙ ap (λ (f : List ℕ → Option (List ℕ)). vacant_if (f path)) names_kept.waiting in
    let ActsDone = AreDone first reading w (files_of d1) acts outcomes answers in
    let Ran : List Change → Type 0 = Done (λ trigger. trigger ≡ first) reading w (files_of d0) acts report in
    let before : Stands w v da = stands_on w Anywhere v (Asked MovedAll v w (files_of d0)) d0 da (distinct, λ tells. tt) (asked distinct) (λ added is. is.stepped.0.1) in
    let here : Stands w (at_rest w) d1 = subst (λ (u : Vacancy). Stands w u d1) rest (opened_stands w v da d1 before opens) in
    let begun : Calls d0 d1 (Begun v w (files_of d0)) =
    calls_map d0 d1 _ (Begun v w (files_of d0))
    (calls_both d0 d1 (Opened v w (files_of d0)) (ShowsBegun w (files_of d0))
    (calls_join d0 da d1 (Asked MovedAll v w (files_of d0)) One (Opened v w (files_of d0)) (asked distinct) opens (λ xs ys tells told x y. (xs, ys, refl, x, y))) (shows distinct))
    (λ added tells told both. let o = both.0 in record { asked = o.0; opening = o.1; all = o.2; does = o.3; opens = o.4; shows = both.1 }) in
    then_none d0 d2 d3 Ran
    (changed_join d0 d1 d2 (Begun v w (files_of d0)) ActsDone Ran (calls_changed d0 d1 (Begun v w (files_of d0)) begun) (calls_changed d1 d2 ActsDone (p here))
    (λ xs ys tells told x y.
    record {
      run = record { asked = x.asked; vacancy = v; opening = x.opening; effects = y.effects };
      all = ap (λ (c : List Change). c ++ ys) x.all ∙ ap (λ (c : List Change). (x.asked ++ x.opening) ++ c) y.all;
      is = record {
        asked = x.does.stepped;
        moved = subst (λ (r : Result Unit OpeningError). OnOk r (MovedAll (files_of d0) (found_moves (Some w.archives) w.waiting (files_of d0)) x.asked)) (sym is_open) x.does.moves;
        partly = subst (λ (r : Result Unit OpeningError). OnErr r (MovedPartly (files_of d0) (found_moves (Some w.archives) w.waiting (files_of d0)) x.asked)) (sym is_open) tt;
        idle = x.does.idle;
        rests = subst (λ (r : Result Unit OpeningError). OnOk r (v ≡ at_rest w)) (sym is_open) rest;
        shows = subst (λ (r : Result Unit OpeningError). OnOk r (ShowsBegun w (files_of d0) (x.asked ++ x.opening))) (sym is_open) (subst (ShowsBegun w (files_of d0)) x.all x.shows);
        opens = subst (OnlyOpens path Append) (sym x.opens) (refl, refl, tt);
        opened = subst (λ (r : Result Unit OpeningError). OnOk r (x.opening ≡ opened path Append ∷ [])) (sym is_open) x.opens;
        acted = y.acted ∙ ap (λ (r : Result Unit OpeningError). acts_in (is_ok r) acts) (sym is_open);
        effects = subst (λ (f : Files). AreEffects reading w f y.effects) (files_after d0 d1 xs told ∙ ap (replay (files_of d0)) x.all) y.are;
        triggers = y.goes;
        vacant = y.vacant;
        outcomes = has ∙ y.noted;
        answers = said ∙ y.said;
      };
    }))
    (closed d2 d3 closes)) where
      some_both : {X : Type 0} (o : Option X) (P Q : X → Type 0) (R : Type 0) (S T : X → Type 0) → IfSome o P → IfSome o Q → (IsSome o → R) → IfSome o S → ((x : X) → P x → Q x → R → S x → T x) → IfSome o T
      some_both None P Q R S T p q r s f = tt
      some_both (Some x) P Q R S T p q r s f = f x p q (r refl) s

-- no copies were made
pub stopped_clean : (m1 m2 : Start) (r1 r2 n1 n2 : ℕ) (d0 d1 d2 d3 : Disk)
    → Does d0 d1 [] d0.refusals None → Calls (marked m1 r1 n1 d1) (marked m2 r2 n2 d2) NoCopies → Does d2 d3 [] d2.refusals None → Changed d0 d3 NoCopies
stopped_clean m1 m2 r1 r2 n1 n2 d0 d1 d2 d3 opens calls closes =
    clean_join d0 d2 d3
    (clean_join d0 d1 d2 (none_clean d0 d1 (closed d0 d1 opens)) (changed_by m1 m2 r1 r2 n1 n2 d1 d2 NoCopies (calls_changed (marked m1 r1 n1 d1) (marked m2 r2 n2 d2) NoCopies calls)))
    (none_clean d2 d3 (closed d2 d3 closes))

-- nothing was done
pub nothing_done : (o : Option (List (List ℕ))) (waits : Option (List ℕ)) (Starts : BuiltIn → Type 0) (reading : Option Reading) (path : List ℕ) (acts : List Act) (report : RunReport) (error : OpeningError) (disk : Disk)
    → report.opening ≡ Err error → report.outcomes.items ≡ [] → report.answers.items ≡ []
    → IfSome o (DoneIn waits Starts reading path acts report disk disk)
nothing_done o waits Starts reading path acts report error disk is no_outcomes no_answers =
    if_all o (DoneIn waits Starts reading path acts report disk disk)
    (λ older distinct. changed_none (Done Starts reading (around older waits path) (files_of disk) acts report) disk
    (not_opened Starts reading (around older waits path) (files_of disk) acts report error Anywhere [] [] is no_outcomes no_answers
    (record { stepped = (((refl, λ _. tt), tt), λ _ places at are cut. are); idle = λ none. refl; moves = nothing_yet (files_of disk) (found_moves (Some older) waits (files_of disk)) }) tt))

-- a run with a trigger that begins as settings say
pub starts_as : (P Q : BuiltIn → Type 0) (reading : Option Reading) (w : Window) (files : Files) (acts : List Act) (report : RunReport) (added : List Change)
    → ((t : BuiltIn) → P t → Q t) → Done P reading w files acts report added → Done Q reading w files acts report added
starts_as P Q reading w files acts report added all done =
    let is = done.is in
    record {
      run = done.run;
      all = done.all;
      is = record {
        asked = is.asked;
        moved = is.moved;
        partly = is.partly;
        idle = is.idle;
        rests = is.rests;
        shows = is.shows;
        opens = is.opens;
        opened = is.opened;
        acted = is.acted;
        effects = is.effects;
        triggers = goes_as P Q done.run.effects all is.triggers;
        vacant = is.vacant;
        outcomes = is.outcomes;
        answers = is.answers;
      };
    }

-- Reports with room

pub ready_more : (n : ℕ) (reports : List RunReport) (report : RunReport) → AreReady n reports → IsReady n report → AreReady n (reports ++ report ∷ [])
ready_more n [] report are is = (is, tt)
ready_more n (r ∷ reports) report are is = (are.0, ready_more n reports report are.1 is)

pub ready_back : (n : ℕ) (xs ys : List RunReport) → AreReady n (xs ++ ys) → AreReady n ys
ready_back n [] ys are = are
ready_back n (x ∷ xs) ys are = ready_back n xs ys are.1

pub ready_front : (n : ℕ) (xs ys : List RunReport) → AreReady n (xs ++ ys) → AreReady n xs
ready_front n [] ys are = tt
ready_front n (x ∷ xs) ys are = (are.0, ready_front n xs ys are.1)

-- more room than is needed
pub ready_for : (n m : ℕ) (report : RunReport) → m ≤ n → IsReady n report → IsReady m report
ready_for n m report less is =
    record {
      outcomes = is.outcomes;
      answers = is.answers;
      no_outcomes = is.no_outcomes;
      no_answers = is.no_answers;
      room = let a = is.room in omega arith;
      room_of_answers = let a = is.room_of_answers in omega arith;
      counts = is.counts;
    }

room_wider : (n m : ℕ) (runs : List Run) → n ≤ m → HaveRoom n runs → HaveRoom m runs
room_wider n m [] less are = tt
room_wider n m (run ∷ runs) less are = (let a = are.0 in omega arith, room_wider n m runs less are.1)

room_push : (n : ℕ) (runs : List Run) (run : Run) → HaveRoom n runs → length run.acts.items ≤ n → HaveRoom n (runs ++ run ∷ [])
room_push n [] run are is = (is, tt)
room_push n (r ∷ runs) run are is = (are.0, room_push n runs run are.1 is)

pub room_more : (runs : List Run) (i n m : ℕ) (run : Run) → i < length runs → run ≡ get_or runs i run → n ≤ m → length run.acts.items ≤ m → HaveRoom n (take i runs) → HaveRoom m (take (i + 1) runs)
room_more runs i n m run below here less is are =
    let taken : take i runs ++ run ∷ [] ≡ take (i + 1) runs = ap (λ (r : Run). take i runs ++ r ∷ []) here ∙ sym (take_more runs i run below) in
    subst (HaveRoom m) taken (room_push m (take i runs) run (room_wider n m (take i runs) less are) is)

room_last : (n : ℕ) (runs : List Run) (run : Run) → HaveRoom n (runs ++ run ∷ []) → length run.acts.items ≤ n
room_last n [] run are = are.0
room_last n (r ∷ runs) run are = room_last n runs run are.1

room_take : (n i : ℕ) (runs : List Run) → HaveRoom n runs → HaveRoom n (take i runs)
room_take n zero runs are = tt
room_take n (suc i) [] are = tt
room_take n (suc i) (run ∷ runs) are = (are.0, room_take n i runs are.1)

pub room_at : (n : ℕ) (runs : List Run) (i : ℕ) (run : Run) → i < length runs → run ≡ get_or runs i run → HaveRoom n runs → length run.acts.items ≤ n
room_at n runs i run below here are =
    let taken : take (i + 1) runs ≡ take i runs ++ run ∷ [] = take_more runs i run below ∙ ap (λ (r : Run). take i runs ++ r ∷ []) (sym here) in
    room_last n (take i runs) run (subst (HaveRoom n) taken (room_take n (i + 1) runs are))
