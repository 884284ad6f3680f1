-- A rolling in the background: an older job is driven to its end, and the file is set aside.
use Rattle.std.proofs.Common.{rules, ◌≡◌, ◌<◌, ◌≤◌, ℕ, zero, suc, List, [], ◌∷◌, ◌++◌, Option, Some, None, refl, sym, ap, ◌∙◌, subst, ◌⊎◌, inl, inr, append_assoc, arith, IsTrue, Bool, true, false, ◌||◌, nat_eq, if◌then◌else◌, Result, Ok, Err, OnOk, OnErr, string_bytes, unwrap_or}
use Rattle.std.specs.Option.{IfSome, IsSome, MatchOption}
use Rattle.std.proofs.lemmas.List.{append-nil}
use Rattle.std.proofs.lemmas.Bool.Decides.{nat_tests}
use Rattle.std.proofs.lemmas.Slice.Eq.{bytes_eq-Decides}
use Rattle.log4rs_rolling.specs.Change.{Change, Files, copied, opened, removed, renamed, wrote, replay}
use Rattle.log4rs_rolling.specs.Disk.{Disk, Does, Calls, files_of}
use Rattle.log4rs_base.specs.declared.error.LogError.{LogError}
use Rattle.log4rs_rolling.proofs.Calls.{calls_join, calls_map, calls_one, files_after, replay-append}
use Rattle.log4rs_rolling.specs.Archives.{waiting_name}
use Rattle.log4rs_rolling.specs.Window.{drops_into, Anywhere, AreDistinct, IsOurs, NoCopies, OfAnother, Vacancy, VacantAt, Vacant, Window, around, names}
use Rattle.log4rs_rolling.specs.declared.fixed_window.Job.{Job}
use Rattle.log4rs_rolling.specs.declared.fixed_window.FixedWindowRoller.{FixedWindowRoller}
use Rattle.log4rs_rolling.specs.Keeping.{Keeping, RolledAs, RolledIn, SameNames, Silent, Stands, StaysAmong, SteppedAt, SteppedIn, names_of}
use Rattle.log4rs_rolling.specs.Moves.{AreLast, Begins, Moved, MovedAll, MovedPartly, archive_names, each_to_the_older, if_there}
use Rattle.log4rs_rolling.specs.Places.{IsAmong, OnlyOf}
use Rattle.log4rs_rolling.specs.Roller.{archive_name, archives_of, begun_of, kept_by, rest_by, rest_of, rolling_if, slot, vacancy_in, vacancy_of, waiting_if, window_with}
use Rattle.log4rs_rolling.proofs.Moving.{can_move_all, on_err, on_err_map, on_ok_map}
use Rattle.log4rs_rolling.proofs.Parts.{LeftOf, if_all, if_map, silent_both, stands_on}
use Rattle.log4rs_rolling.proofs.Places.{among_behind, is_named, moved_of}
use Rattle.log4rs_rolling.proofs.Rollers.{moved_silent, not_none}
use Rattle.log4rs_rolling.specs.SegmentsShown.{ClosesIn, StaysIn}
use Rattle.log4rs_rolling.proofs.Standing.{aside_closes, stays_then_closes}
use Rattle.log4rs_rolling.proofs.Growing.{present}
use Rattle.log4rs_rolling.proofs.Stepping.{among_front, archives_some, aside_in, rolled_behind_steps, rolled_by_steps}

-- The rename of the file

-- a job is begun just where there is a file
abbrev pub IfThere : Option Job → Option (List ℕ) → Type 0
IfThere None v = v ≡ None
IfThere (Some job) v = IsSome v

-- what setting the file aside adds: nothing, where nothing waits then
abbrev pub SetAside : List ℕ → Option Job → Files → List Change → Type 0
SetAside file now files added = (Moved files file (waiting_name file) added × NoCopies added) × (now ≡ None → added ≡ []) × IfThere now (files file)

-- the job that was begun
abbrev pub IsBegun : List ℕ → ℕ → Option Job → Type 0
IsBegun file count now = IfSome now (λ job. (string_bytes job.waiting ≡ waiting_name file) × (job.left ≡ count))

pub was_moved : (v : Option (List ℕ)) (from to : List ℕ) → IsSome v
    → MatchOption v (renamed from to ∷ [] ≡ []) (λ _. (renamed from to ∷ [] ≡ renamed from to ∷ []) ⊎ (renamed from to ∷ [] ≡ copied from to ∷ removed from ∷ []))
was_moved None from to some = absurd (search rules)
was_moved (Some x) from to some = inl refl

pub aside_moved : (d0 d1 : Disk) (file to waiting : List ℕ) (at : Option (List ℕ)) → to ≡ waiting → Does d0 d1 (renamed file to ∷ []) d0.refusals at
    → (IsTrue d0.tells → IsSome (files_of d0 file)) → Calls d0 d1 (λ added. Moved (files_of d0) file waiting added × NoCopies added)
aside_moved d0 d1 file to waiting at same does present =
    let Set : List ℕ → List Change → Type 0 = λ p added. Moved (files_of d0) file p added × NoCopies added in
    subst (λ (p : List ℕ). Calls d0 d1 (Set p)) same
    (calls_one d0 d1 at (Set to) (renamed file to ∷ []) d0.refusals does (omega arith) (λ tells. (was_moved (files_of d0 file) file to (present tells), tt)))

pub set_moved : (file : List ℕ) (job : Job) (d0 d1 : Disk) → Calls d0 d1 (λ added. Moved (files_of d0) file (waiting_name file) added × NoCopies added) → (IsTrue d0.tells → IsSome (files_of d0 file))
    → Calls d0 d1 (SetAside file (Some job) (files_of d0))
set_moved file job d0 d1 calls there = calls_map d0 d1 _ (SetAside file (Some job) (files_of d0)) calls (λ added tells told moved. (moved, (λ none. cc), there tells))

-- nothing is written and nothing copied
pub aside_calls : (X : Type 0) (r : Result Unit LogError) (file waiting : List ℕ) (d0 d1 : Disk) → OnOk r (Calls d0 d1 (λ added. Moved (files_of d0) file waiting added × NoCopies added))
    → OnErr r (X × Calls d0 d1 (λ added. added ≡ [])) → Calls d0 d1 (λ added. Silent added × NoCopies added)
aside_calls X (Ok t) file waiting d0 d1 ok err =
    calls_map d0 d1 _ (λ added. Silent added × NoCopies added) ok (λ added tells told moved. ((λ path. moved_silent (files_of d0 file) file waiting path added moved.0), moved.1))
aside_calls X (Err e) file waiting d0 d1 ok err =
    calls_map d0 d1 _ (λ added. Silent added × NoCopies added) err.1 (λ added tells told none. subst (λ (c : List Change). Silent c × NoCopies c) (sym none) ((λ path. refl), tt))

-- What is kept

equal : (a b : ℕ) → a ≡ b → nat_eq a b ≡ true
equal a b same = grind (arith, nat_tests)

pub vacancy_begun : (name : ℕ → List ℕ) (base count : ℕ) (file : List ℕ) (job : Job) → string_bytes job.waiting ≡ waiting_name file → job.left ≡ count → vacancy_of name base count (Some job) file ≡ Anywhere
vacancy_begun name base count file job same left =
    ap (λ (b : Bool). if b then vacancy_in name base count (string_bytes job.waiting) job.left else OfAnother) ((bytes_eq-Decides (string_bytes job.waiting) (waiting_name file)).1 same)
    ∙ ap (λ (b : Bool). if b then Anywhere else VacantAt (slot name base (string_bytes job.waiting) job.left)) (equal job.left count left)

vacant_then : (name : ℕ → List ℕ) (base count : ℕ) (file : List ℕ) (now : Option Job) (files : Files) (added : List Change) → IsBegun file count now
    → Vacant (VacantAt (waiting_name file)) file files → (now ≡ None → added ≡ []) → Vacant (vacancy_of name base count now file) file (replay files added)
vacant_then name base count file None files added its vacant none =
    subst (λ (c : List Change). Vacant (VacantAt (waiting_name file)) file (replay files c)) (sym (none refl)) vacant
vacant_then name base count file (Some job) files added its vacant none =
    subst (λ (v : Vacancy). Vacant v file (replay files added)) (sym (vacancy_begun name base count file job its.0 its.1)) tt

pub begun_ours : (name : ℕ → List ℕ) (base count : ℕ) (file : List ℕ) (now : Option Job) → IsBegun file count now → IsOurs (vacancy_of name base count now file)
begun_ours name base count file None its = tt
begun_ours name base count file (Some job) its = subst IsOurs (sym (vacancy_begun name base count file job its.0 its.1)) tt

aside_moves : (name : ℕ → List ℕ) (base count : ℕ) (file : List ℕ) (now : Option Job) (d0 d1 : Disk) → Calls d0 d1 (SetAside file now (files_of d0))
    → IfSome (begun_of name base count None file) (λ moves. Calls d0 d1 (MovedAll (files_of d0) moves))
aside_moves name base zero file now d0 d1 calls = tt
aside_moves name base (suc n) file now d0 d1 calls = calls_map d0 d1 _ _ calls (λ added tells told aside. (added, [], sym (append-nil added), aside.0.0, refl))

-- a move of a file that is there changes something
some_change : (v : Option (List ℕ)) (s from to : List ℕ) (added : List Change) → v ≡ Some s → added ≡ []
    → MatchOption v (added ≡ []) (λ _. (added ≡ renamed from to ∷ []) ⊎ (added ≡ copied from to ∷ removed from ∷ [])) → ⊥
some_change None s from to added is none moved = absurd (missing s is) where
  missing : (s : List ℕ) → None ≡ Some s → ⊥
  missing s e = cc
some_change (Some x) s from to added is none moved =
    elim moved [
      | inl once ↦ no_change (sym none ∙ once)
      | inr twice ↦ no_change (sym none ∙ twice)
    ] where
      no_change : {change : Change} {changes : List Change} → [] ≡ change ∷ changes → ⊥
      no_change e = cc

-- a file that is there is set aside
set_closes : (name : ℕ → List ℕ) (base count : ℕ) (file : List ℕ) (now : Option Job) (files : Files) (added : List Change) → let w = around (archive_names name base count) (Some (waiting_name file)) file in
    IsBegun file count now → AreDistinct (names w) → SetAside file now files added → ClosesIn (VacantAt (waiting_name file)) (vacancy_of name base count now file) w files added
set_closes name base count file None files added its distinct aside = λ segments shows some.
    absurd (some_change (files file) segments.current file (waiting_name file) added (present (files file) segments.current shows.current some) (aside.1 refl) aside.0.0)
set_closes name base count file (Some job) files added its distinct aside =
    subst (λ (v : Vacancy). ClosesIn (VacantAt (waiting_name file)) v (around (archive_names name base count) (Some (waiting_name file)) file) files added)
    (sym (vacancy_begun name base count file job its.0 its.1))
    (aside_closes (archive_names name base count) (waiting_name file) file files added distinct aside.0.0)

aside_left : (name : ℕ → List ℕ) (base count : ℕ) (file : List ℕ) (now : Option Job) (v : Option (List ℕ)) → IsBegun file count now → IfThere now v
    → rest_of name base now ≡ if_there v (each_to_the_older (archive_names name base count ++ waiting_name file ∷ []))
aside_left name base count file None v its none = ap (λ (o : Option (List ℕ)). if_there o (each_to_the_older (archive_names name base count ++ waiting_name file ∷ []))) (sym none)
aside_left name base count file (Some job) None its some = absurd (search rules)
aside_left name base count file (Some job) (Some bytes) its some =
    ap (λ (n : ℕ). each_to_the_older (archive_names name base n ++ string_bytes job.waiting ∷ [])) its.1
    ∙ ap (λ (p : List ℕ). each_to_the_older (archive_names name base count ++ p ∷ [])) its.0

aside_rolled : (name : ℕ → List ℕ) (base count : ℕ) (rename_only : Bool) (now : Option Job) (file : List ℕ) (d0 d1 : Disk) → 0 < count → IsBegun file count now
    → Calls d0 d1 (SetAside file now (files_of d0))
    → RolledAs (window_with name base count rename_only true true None) (window_with name base count rename_only true true now) file (Ok tt) d0 d1
aside_rolled name base count rename_only now file d0 d1 some its calls =
    record {
      kept = archives_some name base count
          (λ older. let window = around older (Some (waiting_name file)) file in
          Stands window (VacantAt (waiting_name file)) d0 → Calls d0 d1 (RolledIn 0 (vacancy_of name base count now file) window (files_of d0)))
          (λ stands. calls_map d0 d1 _ _ calls (λ added tells told aside.
          aside_in (archive_names name base count) (waiting_name file) file (vacancy_of name base count now file) (files_of d0) added stands.0 (stands.1 tells) aside.0.0 aside.0.1
          (vacant_then name base count file now (files_of d0) added its (stands.1 tells) aside.1)));
      moved = aside_moves name base count file now d0 d1 calls;
      removed = λ none. absurd (not_none count some none);
      closes = archives_some name base count
          (λ older. let window = around older (Some (waiting_name file)) file in
          IsTrue true → Stands window (VacantAt (waiting_name file)) d0
          → Calls d0 d1 (ClosesIn (VacantAt (waiting_name file)) (vacancy_of name base count now file) window (files_of d0)))
          (λ known stands. calls_map d0 d1 _ _ calls (λ added tells told aside. set_closes name base count file now (files_of d0) added its stands.0 aside));
      fewer = archives_some name base count
          (λ older. Stands (around older (Some (waiting_name file)) file) (VacantAt (waiting_name file)) d0 → Unit {0})
          (λ stands. tt);
      partly = if_all ((window_with name base count rename_only true true None).moves file) (λ moves. Unit {0}) (λ moves. tt);
      begun = λ known. tt;
      left = archives_some name base count (LeftOf (window_with name base count rename_only true true None) (window_with name base count rename_only true true now) file (Ok tt) d0 d1)
          (λ known. calls_map d0 d1 _ _ calls (λ added tells told aside. ([], added, refl, refl, aside_left name base count file now (files_of d0 file) its aside.2)));
    }

aside_among : (name : ℕ → List ℕ) (base count : ℕ) (rename_only : Bool) (now : Option Job) (file : List ℕ) (d0 d1 : Disk) → IsBegun file count now
    → Calls d0 d1 (SetAside file now (files_of d0))
    → StaysAmong (window_with name base count rename_only true true None) (window_with name base count rename_only true true now) file d0 d1
aside_among name base count rename_only now file d0 d1 its calls =
    let k : Keeping = window_with name base count rename_only true true None in
    let w = waiting_name file in
    let older = unwrap_or (archives_of name base count) [] in
    let there : IsAmong w (names_of k file) = among_front w (older ++ w ∷ []) (file ∷ []) (among_behind w older (w ∷ []) (inl refl)) in
    λ ours. (
      begun_ours name base count file now its,
      λ built. calls_map d0 d1 _ (OnlyOf (names_of k file)) calls (λ added tells told aside. moved_of (files_of d0 file) (names_of k file) file w added (is_named k file) there aside.0.0),
    )

-- what is kept by a roller with this job in place of its own
abbrev pub kept_with : FixedWindowRoller → Option Job → Keeping
kept_with roller job = window_with (archive_name roller) roller.base roller.count roller.rename_only roller.background roller.asked job

-- and in the background or not, where somebody asked or not
abbrev kept_in : Bool → Bool → FixedWindowRoller → Option Job → Keeping
kept_in background asked roller job = window_with (archive_name roller) roller.base roller.count roller.rename_only background asked job

-- of a roller in the background that was asked, which had no job
pub roller_aside : (roller : FixedWindowRoller) (now : Option Job) (file : List ℕ) (d0 d1 : Disk) → IsTrue roller.background → IsTrue roller.asked → roller.job ≡ None → 0 < roller.count → IsBegun file roller.count now
    → Calls d0 d1 (SetAside file now (files_of d0)) → RolledAs (kept_by roller) (kept_with roller now) file (Ok tt) d0 d1
roller_aside roller now file d0 d1 on knows none some its calls =
    subst (λ (j : Option Job). RolledAs (kept_with roller j) (kept_with roller now) file (Ok tt) d0 d1) (sym none)
    (subst (λ (b : Bool). RolledAs (kept_in b roller.asked roller None) (kept_in b roller.asked roller now) file (Ok tt) d0 d1) (sym on)
    (subst (λ (a : Bool). RolledAs (kept_in true a roller None) (kept_in true a roller now) file (Ok tt) d0 d1) (sym knows)
    (aside_rolled (archive_name roller) roller.base roller.count roller.rename_only now file d0 d1 some its calls)))

pub roller_among : (roller : FixedWindowRoller) (now : Option Job) (file : List ℕ) (d0 d1 : Disk) → IsTrue roller.background → IsTrue roller.asked → roller.job ≡ None → IsBegun file roller.count now
    → Calls d0 d1 (SetAside file now (files_of d0)) → StaysAmong (kept_by roller) (kept_with roller now) file d0 d1
roller_among roller now file d0 d1 on knows none its calls =
    subst (λ (j : Option Job). StaysAmong (kept_with roller j) (kept_with roller now) file d0 d1) (sym none)
    (subst (λ (b : Bool). StaysAmong (kept_in b roller.asked roller None) (kept_in b roller.asked roller now) file d0 d1) (sym on)
    (subst (λ (a : Bool). StaysAmong (kept_in true a roller None) (kept_in true a roller now) file d0 d1) (sym knows)
    (aside_among (archive_name roller) roller.base roller.count roller.rename_only now file d0 d1 its calls)))

-- a roller that keeps some removes nothing
pub keeps_some : (roller : FixedWindowRoller) → 0 < roller.count → IsTrue (kept_by roller).removes → ⊥
keeps_some roller some none = not_none roller.count some none

-- a rolling that failed before it did anything
failed_closes : (k now : Keeping) (path : List ℕ) (r : Result Unit LogError) (d0 d1 : Disk) → ((X : Type 0) → OnOk r X)
    → IfSome k.archives (λ older. let w = around older (k.waiting path) path in
    IsTrue k.is_built_in → Stands w (k.vacant path) d0 → OnOk r (Calls d0 d1 (ClosesIn (k.vacant path) (now.vacant path) w (files_of d0))))
failed_closes k now path r d0 d1 failed =
    if_all k.archives
    (λ older. let w = around older (k.waiting path) path in
    IsTrue k.is_built_in → Stands w (k.vacant path) d0 → OnOk r (Calls d0 d1 (ClosesIn (k.vacant path) (now.vacant path) w (files_of d0))))
    (λ older. λ known stands. failed (Calls d0 d1 (ClosesIn (k.vacant path) (now.vacant path) (around older (k.waiting path) path) (files_of d0))))

failed_left : (k now : Keeping) (path : List ℕ) (r : Result Unit LogError) (d0 d1 : Disk) → ((X : Type 0) → OnOk r X) → IfSome k.archives (LeftOf k now path r d0 d1)
failed_left k now path r d0 d1 failed =
    if_all k.archives (LeftOf k now path r d0 d1)
    (λ older. if_all (k.waiting path) (λ waiting. IsSome (k.moves path) → OnOk r (Calls d0 d1 (Begins (files_of d0) k.rest path (each_to_the_older (older ++ waiting ∷ [])) now.rest)))
    (λ waiting. λ known. failed (Calls d0 d1 (Begins (files_of d0) k.rest path (each_to_the_older (older ++ waiting ∷ [])) now.rest))))

pub can_partly : (files : Files) (moves : List (List ℕ × List ℕ)) → MovedPartly files moves []
can_partly files moves = let can = can_move_all files moves in (can.0, can.1, λ clean. can.2)

pub nothing_rolled : (k : Keeping) (file : List ℕ) (r : Result Unit LogError) (d0 d1 : Disk) → ((X : Type 0) → OnOk r X) → (IsTrue k.removes → ⊥) → Calls d0 d1 (λ added. added ≡ []) → RolledAs k k file r d0 d1
nothing_rolled k file r d0 d1 failed keeps calls =
    record {
      kept = if_all k.archives
          (λ older. let window = around older (k.waiting file) file in Stands window (k.vacant file) d0 → Calls d0 d1 (RolledIn (drops_into (k.vacant file)) (k.vacant file) window (files_of d0)))
          (λ older. λ stands.
          let window = around older (k.waiting file) file in
          let v = k.vacant file in
          calls_map d0 d1 _ _ calls (λ added tells told none. subst (RolledIn (drops_into v) v window (files_of d0)) (sym none) (((refl, λ _. tt), stands.1 tells), λ _ places at are cut. are)));
      moved = if_all (k.moves file) (λ moves. OnOk r (Calls d0 d1 (MovedAll (files_of d0) moves))) (λ moves. failed (Calls d0 d1 (MovedAll (files_of d0) moves)));
      removed = λ is. absurd (keeps is);
      closes = failed_closes k k file r d0 d1 failed;
      fewer = if_all k.archives
          (λ older. Stands (around older (k.waiting file) file) (k.vacant file) d0 → OnErr r (drops_into (k.vacant file) ≤ drops_into (k.vacant file)))
          (λ older. λ stands. on_err r (omega arith));
      partly = if_all (k.moves file) (λ moves. OnErr r (Calls d0 d1 (MovedPartly (files_of d0) moves)))
          (λ moves. on_err r (calls_map d0 d1 _ _ calls (λ added tells told none. subst (MovedPartly (files_of d0) moves) (sym none) (can_partly (files_of d0) moves))));
      begun = λ known. on_err r ([], refl);
      left = failed_left k k file r d0 d1 failed;
    }

-- An older job, and then the file

-- what a later rolling keeps, with these ways to wait and to leave names vacant
abbrev Later : (List ℕ → Vacancy) → (List ℕ → Vacancy) → Option (List ℕ) → List ℕ → Disk → Disk → List (List ℕ) → Type 0
Later before now waits path old new older = let w = around older waits path in
    Stands w (before path) old → Calls old new (RolledIn (drops_into (before path)) (now path) w (files_of old))

kept_after : (o : Option (List (List ℕ))) (waits : Option (List ℕ)) (u v x : Vacancy) (path : List ℕ) (d0 d1 d2 : Disk)
    → IfSome o (λ older. let w = around older waits path in Stands w u d0 → (drops_into v ≤ drops_into u) × Calls d0 d1 (SteppedIn u v w (files_of d0)))
    → IfSome o (λ older. let w = around older waits path in Stands w v d1 → Calls d1 d2 (RolledIn (drops_into v) x w (files_of d1)))
    → IfSome o (λ older. let w = around older waits path in Stands w u d0 → Calls d0 d2 (RolledIn (drops_into u) x w (files_of d0)))
kept_after None waits u v x path d0 d1 d2 a b = tt
kept_after (Some older) waits u v x path d0 d1 d2 a b = λ stands.
    let w : Window = around older waits path in
    let first = a stands in
    let later = b (stands_on w u v _ d0 d1 stands first.1 (λ added is. is.0.1)) in
    calls_join d0 d1 d2 _ _ _ first.1 later (λ xs ys tells told p q.
    rolled_behind_steps u v x w (files_of d0) xs ys first.0 p (subst (λ (f : Files). RolledIn (drops_into v) x w f ys) (files_after d0 d1 xs told) q))

abbrev LaterCloses : Type 0 → (List ℕ → Vacancy) → (List ℕ → Vacancy) → Option (List ℕ) → List ℕ → Result Unit LogError → Disk → Disk → List (List ℕ) → Type 0
LaterCloses told before now waits path r old new older = let w = around older waits path in
    told → Stands w (before path) old → OnOk r (Calls old new (ClosesIn (before path) (now path) w (files_of old)))

closes_after : (o : Option (List (List ℕ))) (waits : Option (List ℕ)) (told next : Type 0) (u v x : Vacancy) (path : List ℕ) (r : Result Unit LogError) (d0 d1 d2 : Disk) → (told → next)
    → IfSome o (λ older. let w = around older waits path in Stands w u d0 → (drops_into v ≤ drops_into u) × Calls d0 d1 (SteppedIn u v w (files_of d0)))
    → IfSome o (λ older. let w = around older waits path in Stands w u d0 → Calls d0 d1 (StaysIn u v w (files_of d0)))
    → IfSome o (λ older. let w = around older waits path in next → Stands w v d1 → OnOk r (Calls d1 d2 (ClosesIn v x w (files_of d1))))
    → IfSome o (λ older. let w = around older waits path in told → Stands w u d0 → OnOk r (Calls d0 d2 (ClosesIn u x w (files_of d0))))
closes_after None waits told next u v x path r d0 d1 d2 then_next kept a b = tt
closes_after (Some older) waits told next u v x path r d0 d1 d2 then_next kept a b = λ known stands.
    let w : Window = around older waits path in
    on_ok_map r
    (λ (later : Calls d1 d2 (ClosesIn v x w (files_of d1))).
    calls_join d0 d1 d2 _ _ (ClosesIn u x w (files_of d0)) (a stands) later
    (λ xs ys tells told p q. stays_then_closes u v x w (files_of d0) xs ys p (subst (λ (f : Files). ClosesIn v x w f ys) (files_after d0 d1 xs told) q)))
    (b (then_next known) (stands_on w u v _ d0 d1 stands (kept stands).1 (λ added is. is.0.1)))

abbrev LaterFewer : (List ℕ → Vacancy) → (List ℕ → Vacancy) → Option (List ℕ) → List ℕ → Result Unit LogError → Disk → List (List ℕ) → Type 0
LaterFewer before now waits path r old older = let w = around older waits path in
    Stands w (before path) old → OnErr r (drops_into (now path) ≤ drops_into (before path))

fewer_after : (o : Option (List (List ℕ))) (waits : Option (List ℕ)) (u v x : Vacancy) (path : List ℕ) (r : Result Unit LogError) (d0 d1 : Disk)
    → IfSome o (λ older. let w = around older waits path in Stands w u d0 → (drops_into v ≤ drops_into u) × Calls d0 d1 (SteppedIn u v w (files_of d0)))
    → IfSome o (λ older. let w = around older waits path in Stands w v d1 → OnErr r (drops_into x ≤ drops_into v))
    → IfSome o (λ older. let w = around older waits path in Stands w u d0 → OnErr r (drops_into x ≤ drops_into u))
fewer_after None waits u v x path r d0 d1 kept b = tt
fewer_after (Some older) waits u v x path r d0 d1 kept b = λ stands.
    let w : Window = around older waits path in
    let first = kept stands in
    on_err_map r (λ (less : drops_into x ≤ drops_into v). at_most (drops_into u) (drops_into v) (drops_into x) first.0 less)
    (b (stands_on w u v _ d0 d1 stands first.1 (λ added is. is.0.1))) where
      at_most : (a b c : ℕ) → b ≤ a → c ≤ b → c ≤ a
      at_most a b c p q = omega arith

-- what was left is moved, and then nothing is
begins_behind : (files : Files) (rest none : List (List ℕ × List ℕ)) (path : List ℕ) (moves left : List (List ℕ × List ℕ)) (xs ys : List Change) → MovedAll files rest xs → none ≡ []
    → Begins (replay files xs) none path moves left ys → Begins files rest path moves left (xs ++ ys)
begins_behind files rest none path moves left xs ys all is begins =
    let nothing : begins.0 ≡ [] = subst (λ (m : List (List ℕ × List ℕ)). MovedAll (replay files xs) m begins.0) is begins.3 in (
      xs,
      ys,
      refl,
      all,
      begins.4 ∙ ap (λ (c : List Change). if_there (replay (replay files xs) c path) moves) nothing,
    )

pub left_after : (a b c : Keeping) (path : List ℕ) (r : Result Unit LogError) (d0 d1 d2 : Disk) → SameNames a b → (IsSome (a.moves path) → Calls d0 d1 (MovedAll (files_of d0) a.rest)) → b.rest ≡ []
    → IfSome b.archives (LeftOf b c path r d1 d2) → IfSome a.archives (LeftOf a c path r d0 d2)
left_after a b c path r d0 d1 d2 names driven none later =
    let to : List (List ℕ) → List ℕ → List (List ℕ × List ℕ) = λ older waiting. each_to_the_older (older ++ waiting ∷ []) in
    let Later : List (List ℕ) → List ℕ → Type 0 = λ older waiting. IsSome (b.moves path) → OnOk r (Calls d1 d2 (Begins (files_of d1) b.rest path (to older waiting) c.rest)) in
    let Whole : List (List ℕ) → List ℕ → Type 0 = λ older waiting. IsSome (a.moves path) → OnOk r (Calls d0 d2 (Begins (files_of d0) a.rest path (to older waiting) c.rest)) in
    if_map a.archives (λ older. IfSome (a.waiting path) (Later older)) (LeftOf a c path r d0 d2)
    (subst (λ (o : Option (List (List ℕ))). IfSome o (λ older. IfSome (a.waiting path) (Later older))) names.archives
    (subst (λ (f : List ℕ → Option (List ℕ)). IfSome b.archives (λ older. IfSome (f path) (Later older))) names.waiting later))
    (λ older here. if_map (a.waiting path) (Later older) (Whole older) here
    (λ waiting left. λ known.
    on_ok_map r
    (λ (calls : Calls d1 d2 (Begins (files_of d1) b.rest path (to older waiting) c.rest)).
    calls_join d0 d1 d2 _ _ (Begins (files_of d0) a.rest path (to older waiting) c.rest) (driven known) calls
    (λ xs ys tells told all begins. begins_behind (files_of d0) a.rest b.rest path (to older waiting) c.rest xs ys all none
    (subst (λ (f : Files). Begins f b.rest path (to older waiting) c.rest ys) (files_after d0 d1 xs told) begins)))
    (left (names.told path known))))

pub rolled_after : (a b c : Keeping) (path : List ℕ) (r : Result Unit LogError) (d0 d1 d2 : Disk) → (IsTrue a.removes → ⊥) → SteppedAt a b path d0 d1 → RolledAs b c path r d1 d2
    → IfSome (a.moves path) (λ moves. OnOk r (Calls d0 d2 (MovedAll (files_of d0) moves)))
    → IfSome (a.moves path) (λ moves. OnErr r (Calls d0 d2 (MovedPartly (files_of d0) moves))) → (IsSome (a.moves path) → OnErr r (AreLast a.rest c.rest))
    → IfSome a.archives (LeftOf a c path r d0 d2) → RolledAs a c path r d0 d2
rolled_after a b c path r d0 d1 d2 keeps x y moved partly begun left =
    record {
      kept = kept_after a.archives (a.waiting path) (a.vacant path) (b.vacant path) (c.vacant path) path d0 d1 d2 x.kept
          (subst (λ (o : Option (List (List ℕ))). IfSome o (Later b.vacant c.vacant (a.waiting path) path d1 d2)) x.names.archives
          (subst (λ (f : List ℕ → Option (List ℕ)). IfSome b.archives (Later b.vacant c.vacant (f path) path d1 d2)) x.names.waiting y.kept));
      moved = moved;
      removed = λ is. absurd (keeps is);
      closes = closes_after a.archives (a.waiting path) (IsTrue a.is_built_in) (IsTrue b.is_built_in) (a.vacant path) (b.vacant path) (c.vacant path) path r d0 d1 d2 (λ built. subst IsTrue (sym x.names.is_built_in) built) x.kept x.shown
          (subst (λ (o : Option (List (List ℕ))). IfSome o (LaterCloses (IsTrue b.is_built_in) b.vacant c.vacant (a.waiting path) path r d1 d2)) x.names.archives
          (subst (λ (f : List ℕ → Option (List ℕ)). IfSome b.archives (LaterCloses (IsTrue b.is_built_in) b.vacant c.vacant (f path) path r d1 d2)) x.names.waiting y.closes));
      fewer = fewer_after a.archives (a.waiting path) (a.vacant path) (b.vacant path) (c.vacant path) path r d0 d1 x.kept
          (subst (λ (o : Option (List (List ℕ))). IfSome o (LaterFewer b.vacant c.vacant (a.waiting path) path r d1)) x.names.archives
          (subst (λ (f : List ℕ → Option (List ℕ)). IfSome b.archives (LaterFewer b.vacant c.vacant (f path) path r d1)) x.names.waiting y.fewer));
      partly = partly;
      begun = begun;
      left = left;
    }

-- where the older job was not driven to its end
pub rolled_not : (a b : Keeping) (path : List ℕ) (r : Result Unit LogError) (d0 d1 : Disk) → ((X : Type 0) → OnOk r X) → (IsTrue a.removes → ⊥) → SteppedAt a b path d0 d1
    → IfSome (a.moves path) (λ moves. OnErr r (Calls d0 d1 (MovedPartly (files_of d0) moves))) → (IsSome (a.moves path) → OnErr r (AreLast a.rest b.rest)) → RolledAs a b path r d0 d1
rolled_not a b path r d0 d1 failed keeps x partly begun =
    let u = a.vacant path in
    let v = b.vacant path in
    record {
      kept = if_map a.archives
          (λ older. let w = around older (a.waiting path) path in Stands w u d0 → (drops_into v ≤ drops_into u) × Calls d0 d1 (SteppedIn u v w (files_of d0)))
          (λ older. let w = around older (a.waiting path) path in Stands w u d0 → Calls d0 d1 (RolledIn (drops_into u) v w (files_of d0)))
          x.kept
          (λ older step. λ stands. calls_map d0 d1 _ _ (step stands).1 (λ added tells told stepped. rolled_by_steps u v (around older (a.waiting path) path) (files_of d0) added stepped));
      moved = if_all (a.moves path) (λ moves. OnOk r (Calls d0 d1 (MovedAll (files_of d0) moves))) (λ moves. failed (Calls d0 d1 (MovedAll (files_of d0) moves)));
      removed = λ is. absurd (keeps is);
      closes = failed_closes a b path r d0 d1 failed;
      fewer = if_map a.archives
          (λ older. let w = around older (a.waiting path) path in Stands w u d0 → (drops_into v ≤ drops_into u) × Calls d0 d1 (SteppedIn u v w (files_of d0)))
          (λ older. Stands (around older (a.waiting path) path) u d0 → OnErr r (drops_into v ≤ drops_into u))
          x.kept
          (λ older step. λ stands. on_err r (step stands).0);
      partly = partly;
      begun = begun;
      left = failed_left a b path r d0 d1 failed;
    }

-- a beginning of moves is one of these and others
partly_more : (files : Files) (moves more : List (List ℕ × List ℕ)) (changes : List Change) → MovedPartly files moves changes → MovedPartly files (moves ++ more) changes
partly_more files moves more changes partly =
    let can = can_move_all (replay files (changes ++ partly.0)) more in (
      partly.0 ++ can.0,
      subst (MovedAll files (moves ++ more)) (append_assoc changes partly.0 can.0) (moved_both files moves more (changes ++ partly.0) can.0 partly.1 can.1),
      λ clean. clean_both partly.0 can.0 (partly.2 clean) can.2,
    ) where
      moved_both : (f : Files) (a b : List (List ℕ × List ℕ)) (xs ys : List Change) → MovedAll f a xs → MovedAll (replay f xs) b ys → MovedAll f (a ++ b) (xs ++ ys)
      moved_both f [] b xs ys none all = subst (λ (c : List Change). MovedAll f b (c ++ ys)) (sym none) (subst (λ (c : List Change). MovedAll (replay f c) b ys) none all)
      moved_both f (move ∷ a) b xs ys all later =
          let same : replay f xs ≡ replay (replay f all.0) all.1 = ap (replay f) all.2 ∙ replay-append f all.0 all.1 in (
            all.0,
            all.1 ++ ys,
            ap (λ (c : List Change). c ++ ys) all.2 ∙ append_assoc all.0 all.1 ys,
            all.3,
            moved_both (replay f all.0) a b all.1 ys all.4 (subst (λ (g : Files). MovedAll g b ys) same later),
          )

      clean_both : (xs ys : List Change) → NoCopies xs → NoCopies ys → NoCopies (xs ++ ys)
      clean_both [] ys a b = b
      clean_both (copied from to ∷ xs) ys a b = absurd a
      clean_both (opened at how ∷ xs) ys a b = clean_both xs ys a b
      clean_both (wrote at bytes ∷ xs) ys a b = clean_both xs ys a b
      clean_both (renamed from to ∷ xs) ys a b = clean_both xs ys a b
      clean_both (removed at ∷ xs) ys a b = clean_both xs ys a b

-- what is left to a job is the beginning of a rolling that is begun behind it
begun_partly_of : (name : ℕ → List ℕ) (base count : ℕ) (job : Option Job) (file : List ℕ) (r : Result Unit LogError) (d0 d1 : Disk) → OnErr r (Calls d0 d1 (MovedPartly (files_of d0) (rest_of name base job)))
    → IfSome (begun_of name base count job file) (λ moves. OnErr r (Calls d0 d1 (MovedPartly (files_of d0) moves)))
begun_partly_of name base zero job file r d0 d1 err = tt
begun_partly_of name base (suc n) job file r d0 d1 err =
    let rest = rest_of name base job in
    let one = (file, waiting_name file) ∷ [] in
    on_err_map r (λ (calls : Calls d0 d1 (MovedPartly (files_of d0) rest)). calls_map d0 d1 _ (MovedPartly (files_of d0) (rest ++ one)) calls (λ added tells told partly. partly_more (files_of d0) rest one added partly)) err

pub begun_partly : (roller : FixedWindowRoller) (file : List ℕ) (r : Result Unit LogError) (d0 d1 : Disk) → IsTrue roller.background → (IsTrue roller.asked → OnErr r (Calls d0 d1 (MovedPartly (files_of d0) (rest_by roller))))
    → IfSome ((kept_by roller).moves file) (λ moves. OnErr r (Calls d0 d1 (MovedPartly (files_of d0) moves)))
begun_partly roller file r d0 d1 on err = by roller.asked refl where
  Goal : Bool → Bool → Type 0
  Goal b a = IfSome (rolling_if b a (archive_name roller) roller.base roller.count roller.job file) (λ moves. OnErr r (Calls d0 d1 (MovedPartly (files_of d0) moves)))

  by : (a : Bool) → roller.asked ≡ a → Goal roller.background roller.asked
  by true is = subst (λ (b : Bool). Goal b roller.asked) (sym on) (subst (Goal true) (sym is) (begun_partly_of (archive_name roller) roller.base roller.count roller.job file r d0 d1 (err is)))
  by false is = subst (λ (b : Bool). Goal b roller.asked) (sym on) (subst (Goal true) (sym is) tt)

-- its moves, and one more
moved_behind : (files : Files) (moves : List (List ℕ × List ℕ)) (from to : List ℕ) (xs ys : List Change) → MovedAll files moves xs → Moved (replay files xs) from to ys
    → MovedAll files (moves ++ (from, to) ∷ []) (xs ++ ys)
moved_behind files [] from to xs ys none moved = (
  ys,
  [],
  ap (λ (c : List Change). c ++ ys) none ∙ sym (append-nil ys),
  subst (λ (c : List Change). Moved (replay files c) from to ys) none moved,
  refl,
)
moved_behind files (move ∷ moves) from to xs ys all moved =
    let same : replay files xs ≡ replay (replay files all.0) all.1 = ap (replay files) all.2 ∙ replay-append files all.0 all.1 in (
      all.0,
      all.1 ++ ys,
      ap (λ (c : List Change). c ++ ys) all.2 ∙ append_assoc all.0 all.1 ys,
      all.3,
      moved_behind (replay files all.0) moves from to all.1 ys all.4 (subst (λ (f : Files). Moved f from to ys) same moved),
    )

begun_moves_of : (name : ℕ → List ℕ) (base count : ℕ) (job : Option Job) (file : List ℕ) (r : Result Unit LogError) (d0 d1 d2 : Disk) → Calls d0 d1 (MovedAll (files_of d0) (rest_of name base job))
    → OnOk r (Calls d1 d2 (λ added. Moved (files_of d1) file (waiting_name file) added × NoCopies added))
    → IfSome (begun_of name base count job file) (λ moves. OnOk r (Calls d0 d2 (MovedAll (files_of d0) moves)))
begun_moves_of name base zero job file r d0 d1 d2 driven aside = tt
begun_moves_of name base (suc n) job file r d0 d1 d2 driven aside =
    let rest = rest_of name base job in
    let w = waiting_name file in
    on_ok_map r
    (λ (now : Calls d1 d2 (λ added. Moved (files_of d1) file w added × NoCopies added)).
    calls_join d0 d1 d2 _ _ (MovedAll (files_of d0) (rest ++ (file, w) ∷ [])) driven now
    (λ xs ys tells told all moved. moved_behind (files_of d0) rest file w xs ys all (subst (λ (f : Files). Moved f file w ys) (files_after d0 d1 xs told) moved.0)))
    aside

pub begun_moves : (roller : FixedWindowRoller) (file : List ℕ) (r : Result Unit LogError) (d0 d1 d2 : Disk) → IsTrue roller.background → IsTrue roller.asked → Calls d0 d1 (MovedAll (files_of d0) (rest_by roller))
    → OnOk r (Calls d1 d2 (λ added. Moved (files_of d1) file (waiting_name file) added × NoCopies added))
    → IfSome ((kept_by roller).moves file) (λ moves. OnOk r (Calls d0 d2 (MovedAll (files_of d0) moves)))
begun_moves roller file r d0 d1 d2 on knows driven aside =
    subst (λ (b : Bool). IfSome (rolling_if b roller.asked (archive_name roller) roller.base roller.count roller.job file) (λ moves. OnOk r (Calls d0 d2 (MovedAll (files_of d0) moves)))) (sym on)
    (subst (λ (a : Bool). IfSome (rolling_if true a (archive_name roller) roller.base roller.count roller.job file) (λ moves. OnOk r (Calls d0 d2 (MovedAll (files_of d0) moves)))) (sym knows)
    (begun_moves_of (archive_name roller) roller.base roller.count roller.job file r d0 d1 d2 driven aside))

-- The same roller

counts : (a b : ℕ) → nat_eq b 0 ≡ nat_eq a 0 → 0 < a → 0 < b
counts a b same some = grind (arith, nat_tests)

pub still_some : (r0 r1 : FixedWindowRoller) → SameNames (kept_by r0) (kept_by r1) → 0 < r0.count → 0 < r1.count
still_some r0 r1 names some = counts r0.count r1.count names.removes some

waits : (b0 b1 : Bool) → waiting_if b1 [] ≡ waiting_if b0 [] → IsTrue b0 → IsTrue b1
waits b0 true same on = refl
waits true false same on = cc
waits false false same on = on

pub was_background : (r0 r1 : FixedWindowRoller) → SameNames (kept_by r0) (kept_by r1) → IsTrue r1.background → IsTrue r0.background
was_background r0 r1 names on = waits r1.background r0.background (sym (ap (λ (f : List ℕ → Option (List ℕ)). f []) names.waiting)) on

pub still_background : (r0 r1 : FixedWindowRoller) → SameNames (kept_by r0) (kept_by r1) → IsTrue r0.background → IsTrue r1.background
still_background r0 r1 names on = waits r0.background r1.background (ap (λ (f : List ℕ → Option (List ℕ)). f []) names.waiting) on

-- it only renames
yes_or : (b r : Bool) → IsTrue b → IsTrue (b || r)
yes_or true r on = refl
yes_or false r on = cc

pub in_background_renames : (roller : FixedWindowRoller) → IsTrue roller.background → IsTrue (kept_by roller).renames
in_background_renames roller on = yes_or roller.background roller.rename_only on

pub silent_join : (d0 d1 d2 : Disk) → Calls d0 d1 Silent → Calls d1 d2 Silent → Calls d0 d2 Silent
silent_join d0 d1 d2 x y = calls_join d0 d1 d2 _ _ Silent x y (λ xs ys tells told a b. λ path. silent_both path xs ys (a path) (b path))

-- One that works at once

or_no : (b r : Bool) → b ≡ false → IsTrue (b || r) → IsTrue r
or_no true r off is = cc
or_no false r off is = is

pub at_once_renames : (roller : FixedWindowRoller) → roller.background ≡ false → IsTrue (kept_by roller).renames → IsTrue roller.rename_only
at_once_renames roller off only = or_no roller.background roller.rename_only off only
