-- The moves of an opening.
use Rattle.std.proofs.Common.{rules, ◌≡◌, ◌<◌, ℕ, zero, suc, List, [], ◌∷◌, ◌++◌, Option, Some, None, refl, sym, ap, ◌∙◌, subst, inl, arith, IsTrue, Bool, true, false, Result, Ok, Err, OnOk, OnErr, append_assoc, if◌then◌else◌, inr, ◌⊎◌}
use Rattle.std.specs.Option.{IsSome}
use Rattle.log4rs_base.specs.declared.error.LogError.{LogError}
use Rattle.log4rs_rolling.specs.Archives.{waiting_name}
use Rattle.log4rs_rolling.specs.AtOpening.{MadeMoves, found_moves, opening_moves}
use Rattle.log4rs_rolling.specs.Change.{Change, Files, renamed}
use Rattle.log4rs_rolling.specs.Disk.{Calls, Disk, files_of}
use Rattle.log4rs_rolling.specs.Keeping.{Keeping, SteppedAt}
use Rattle.log4rs_rolling.specs.Moves.{MovedAll, MovedFirst, MovedPartly, archive_names, each_to_the_older, if_there}
use Rattle.log4rs_rolling.specs.Roller.{archive_name, archives_of, kept_by, rest_by, rest_of, waiting_if, window_with}
use Rattle.log4rs_rolling.specs.SegmentGrowth.{ShowsFromStart}
use Rattle.log4rs_rolling.specs.declared.fixed_window.FixedWindowRoller.{FixedWindowRoller}
use Rattle.log4rs_rolling.specs.declared.fixed_window.Job.{Job}
use Rattle.log4rs_rolling.proofs.Aside.{IsBegun, still_background, was_moved}
use Rattle.log4rs_rolling.proofs.Beginning.{start_at_once, start_behind}
use Rattle.log4rs_rolling.proofs.Calls.{calls_join, calls_map, calls_none, files_after}
use Rattle.log4rs_rolling.proofs.Opening.{Probed, no_job_unasked}
use Rattle.log4rs_rolling.proofs.Moving.{Leads, leads_none, leads_stop, on_err, on_err_map, on_ok_map}
use Rattle.log4rs_rolling.proofs.Stepping.{drive_goes_on, driven_stops, rest_none}
use Rattle.log4rs_rolling.proofs.Windows.{NoCopies-back}

-- What they are

-- in a window in the background that has not looked
found_in : (name : ℕ → List ℕ) (base count : ℕ) (file : List ℕ) (files : Files) → 0 < count
    → found_moves (archives_of name base count) (Some (waiting_name file)) files ≡ if_there (files (waiting_name file)) ((waiting_name file, waiting_name file) ∷ each_to_the_older (archive_names name base count ++ waiting_name file ∷ []))
found_in name base zero file files some = absurd (omega arith)
found_in name base (suc n) file files some = refl

pub opening_unasked : (roller : FixedWindowRoller) (file : List ℕ) (files : Files) → IsTrue roller.background → roller.asked ≡ false → 0 < roller.count
    → opening_moves (kept_by roller) file files
    ≡ if_there (files (waiting_name file)) ((waiting_name file, waiting_name file) ∷ each_to_the_older (archive_names (archive_name roller) roller.base roller.count ++ waiting_name file ∷ []))
opening_unasked roller file files on not some =
    let Of : Bool → Bool → List (List ℕ × List ℕ) = λ a b. if a then rest_by roller else found_moves (archives_of (archive_name roller) roller.base roller.count) (waiting_if b file) files in
    ap (λ (a : Bool). Of a roller.background) not ∙ ap (λ (b : Bool). Of false b) on ∙ found_in (archive_name roller) roller.base roller.count file files some

-- where it has
pub opening_asked : (keeping : Keeping) (file : List ℕ) (files : Files) → IsTrue keeping.asked → opening_moves keeping file files ≡ keeping.rest
opening_asked keeping file files is = ap (λ (a : Bool). if a then keeping.rest else found_moves keeping.archives (keeping.waiting file) files) is

-- The first of them

first_missing : (files : Files) (name : List ℕ) (moves : List (List ℕ × List ℕ)) → files name ≡ None → MovedFirst files (if_there (files name) moves) [] []
first_missing files name moves none = subst (λ (v : Option (List ℕ)). MovedFirst files (if_there v moves) [] []) (sym none) (refl, refl)

there : (v : Option (List ℕ)) (moves : List (List ℕ × List ℕ)) → IsSome v → moves ≡ if_there v moves
there None moves some = absurd (search rules)
there (Some x) moves some = refl

first_present : (files : Files) (name : List ℕ) (moves : List (List ℕ × List ℕ)) → IsSome (files name) → MovedFirst files (if_there (files name) ((name, name) ∷ moves)) moves (renamed name name ∷ [])
first_present files name moves some =
    subst (λ (all : List (List ℕ × List ℕ)). MovedFirst files all moves (renamed name name ∷ [])) (there (files name) ((name, name) ∷ moves) some) (refl, was_moved (files name) name name some)

first_of : (name : ℕ → List ℕ) (base count : ℕ) (file : List ℕ) (now : Option Job) (files : Files) (added : List Change) → IsBegun file count now → Probed (waiting_name file) now files added
    → MovedFirst files (if_there (files (waiting_name file)) ((waiting_name file, waiting_name file) ∷ each_to_the_older (archive_names name base count ++ waiting_name file ∷ []))) (rest_of name base now) added
first_of name base count file None files added its is = subst (MovedFirst files _ []) (sym is.0) (first_missing files (waiting_name file) _ is.1)
first_of name base count file (Some job) files added its is =
    let w = waiting_name file in
    let moves = each_to_the_older (archive_names name base count ++ w ∷ []) in
    let left : moves ≡ rest_of name base (Some job) = ap (λ (n : ℕ). each_to_the_older (archive_names name base n ++ w ∷ [])) (sym its.1) ∙ ap (λ (p : List ℕ). each_to_the_older (archive_names name base job.left ++ p ∷ [])) (sym its.0) in
    subst (MovedFirst files (if_there (files w) ((w, w) ∷ moves)) (rest_of name base (Some job))) (sym is.0)
    (subst (λ (m : List (List ℕ × List ℕ)). MovedFirst files (if_there (files w) ((w, w) ∷ moves)) m (renamed w w ∷ [])) left (first_present files w moves is.1))

-- what a look for a waiting file makes
pub look_moves : (roller : FixedWindowRoller) (now : Option Job) (file : List ℕ) (d0 d1 : Disk) → IsTrue roller.background → roller.asked ≡ false → 0 < roller.count → IsBegun file roller.count now
    → Calls d0 d1 (Probed (waiting_name file) now (files_of d0))
    → Calls d0 d1 (MovedFirst (files_of d0) (opening_moves (kept_by roller) file (files_of d0)) (rest_of (archive_name roller) roller.base now))
look_moves roller now file d0 d1 on not some its calls =
    calls_map d0 d1 _ _ calls (λ added tells told is.
    subst (λ (all : List (List ℕ × List ℕ)). MovedFirst (files_of d0) all (rest_of (archive_name roller) roller.base now) added) (sym (opening_unasked roller file (files_of d0) on not some))
    (first_of (archive_name roller) roller.base roller.count file now (files_of d0) added its is))

-- and if nothing waits, it has no job
pub unlooked : (roller : FixedWindowRoller) (file : List ℕ) (d0 d1 : Disk) → roller.asked ≡ false
    → Calls d0 d1 (MovedFirst (files_of d0) (opening_moves (kept_by roller) file (files_of d0)) (rest_of (archive_name roller) roller.base None))
    → Calls d0 d1 (MovedFirst (files_of d0) (opening_moves (kept_by roller) file (files_of d0)) (rest_by roller))
unlooked roller file d0 d1 not calls =
    subst (λ (j : Option Job). Calls d0 d1 (MovedFirst (files_of d0) (opening_moves (kept_by roller) file (files_of d0)) (rest_of (archive_name roller) roller.base j))) (sym (no_job_unasked roller not)) calls

-- All of them

first_leads : (all left : List (List ℕ × List ℕ)) (d0 d1 : Disk) → Calls d0 d1 (MovedFirst (files_of d0) all left) → Calls d0 d1 (Leads (files_of d0) all left)
first_leads all left d0 d1 first = drive_goes_on all all left d0 d0 d1 (calls_none d0 (Leads (files_of d0) all all) (leads_none (files_of d0) all)) first

-- the rest, behind the first
pub then_all : (all left : List (List ℕ × List ℕ)) (d0 d1 d2 : Disk) → Calls d0 d1 (MovedFirst (files_of d0) all left) → Calls d1 d2 (MovedAll (files_of d1) left)
    → Calls d0 d2 (MovedAll (files_of d0) all)
then_all all left d0 d1 d2 first rest =
    calls_join d0 d1 d2 _ _ (MovedAll (files_of d0) all) (first_leads all left d0 d1 first) rest
    (λ xs ys tells told leads moved. leads ys (subst (λ (f : Files). MovedAll f left ys) (files_after d0 d1 xs told) moved))

pub then_partly : (all left : List (List ℕ × List ℕ)) (d0 d1 d2 : Disk) → Calls d0 d1 (MovedFirst (files_of d0) all left) → Calls d1 d2 (MovedPartly (files_of d1) left)
    → Calls d0 d2 (MovedPartly (files_of d0) all)
then_partly all left d0 d1 d2 first rest =
    calls_join d0 d1 d2 _ _ (MovedPartly (files_of d0) all) (first_leads all left d0 d1 first) rest
    (λ xs ys tells told leads partly.
    let moved = subst (λ (f : Files). MovedAll f left (ys ++ partly.0)) (files_after d0 d1 xs told) partly.1 in
    (partly.0, subst (MovedAll (files_of d0) all) (sym (append_assoc xs ys partly.0)) (leads (ys ++ partly.0) moved), λ clean. partly.2 (NoCopies-back xs ys clean)))

-- An opening

pub moves_all : (k : Keeping) (path : List ℕ) (r : Result Unit LogError) (left : List (List ℕ × List ℕ)) (d0 d1 d2 : Disk) → Calls d0 d1 (MovedFirst (files_of d0) (opening_moves k path (files_of d0)) left)
    → OnOk r (Calls d1 d2 (MovedAll (files_of d1) left)) → OnErr r (Calls d1 d2 (MovedPartly (files_of d1) left)) → MadeMoves k path r d0 d2
moves_all k path r left d0 d1 d2 first all partly =
    let moves = opening_moves k path (files_of d0) in
    record {
      all = on_ok_map r (λ (rest : Calls d1 d2 (MovedAll (files_of d1) left)). then_all moves left d0 d1 d2 first rest) all;
      partly = on_err_map r (λ (rest : Calls d1 d2 (MovedPartly (files_of d1) left)). then_partly moves left d0 d1 d2 first rest) partly;
    }

-- of a roller that has looked
pub moves_rest : (k : Keeping) (path : List ℕ) (r : Result Unit LogError) (d0 d1 : Disk) → IsTrue k.asked → OnOk r (Calls d0 d1 (MovedAll (files_of d0) k.rest)) → OnErr r (Calls d0 d1 (MovedPartly (files_of d0) k.rest))
    → MadeMoves k path r d0 d1
moves_rest k path r d0 d1 is all partly =
    let same = sym (opening_asked k path (files_of d0) is) in
    record {
      all = subst (λ (m : List (List ℕ × List ℕ)). OnOk r (Calls d0 d1 (MovedAll (files_of d0) m))) same all;
      partly = subst (λ (m : List (List ℕ × List ℕ)). OnErr r (Calls d0 d1 (MovedPartly (files_of d0) m))) same partly;
    }

-- and from the moves of an opening back to the rest
pub rest_all : (k : Keeping) (path : List ℕ) (r : Result Unit LogError) (d0 d1 : Disk) → MadeMoves k path r d0 d1 → IsTrue k.asked
    → OnOk r (Calls d0 d1 (MovedAll (files_of d0) k.rest)) × OnErr r (Calls d0 d1 (MovedPartly (files_of d0) k.rest))
rest_all k path r d0 d1 made is =
    let same = opening_asked k path (files_of d0) is in (
      subst (λ (m : List (List ℕ × List ℕ)). OnOk r (Calls d0 d1 (MovedAll (files_of d0) m))) same made.all,
      subst (λ (m : List (List ℕ × List ℕ)). OnErr r (Calls d0 d1 (MovedPartly (files_of d0) m))) same made.partly,
    )

-- no move yet is a beginning of them
pub nothing_yet : (files : Files) (moves : List (List ℕ × List ℕ)) → MovedPartly files moves []
nothing_yet files moves = leads_stop files moves moves [] (leads_none files moves)

pub nothing_partly : (moves : List (List ℕ × List ℕ)) (d0 d1 : Disk) → Calls d0 d1 (λ added. added ≡ []) → Calls d0 d1 (MovedPartly (files_of d0) moves)
nothing_partly moves d0 d1 nothing = calls_map d0 d1 _ _ nothing (λ added tells told none. subst (MovedPartly (files_of d0) moves) (sym none) (nothing_yet (files_of d0) moves))

-- where nothing was done, for want of a name or because of a refusal
pub moves_not : (k : Keeping) (path : List ℕ) (r : Result Unit LogError) (d0 d1 : Disk) → ((X : Type 0) → OnOk r X) → Calls d0 d1 (λ added. added ≡ []) → MadeMoves k path r d0 d1
moves_not k path r d0 d1 failed nothing =
    let moves = opening_moves k path (files_of d0) in
    record { all = failed (Calls d0 d1 (MovedAll (files_of d0) moves)); partly = on_err r (nothing_partly moves d0 d1 nothing) }

-- where there is none to make
found_none : (name : ℕ → List ℕ) (base count : ℕ) (b : Bool) (file : List ℕ) (files : Files) → (b ≡ false) ⊎ (count ≡ 0) → found_moves (archives_of name base count) (waiting_if b file) files ≡ []
found_none name base zero b file files why = refl
found_none name base (suc n) true file files why = elim why [ inl off ↦ cc | inr none ↦ cc ]
found_none name base (suc n) false file files why = refl

pub moves_none : (roller : FixedWindowRoller) (file : List ℕ) (d : Disk) → roller.job ≡ None → (roller.background ≡ false) ⊎ (roller.count ≡ 0) → MadeMoves (kept_by roller) file (Ok tt) d d
moves_none roller file d done why =
    let k = kept_by roller in
    record { all = calls_none d (MovedAll (files_of d) (opening_moves k file (files_of d))) (nothing roller.asked); partly = tt } where
      nothing : (a : Bool) → MovedAll (files_of d) (if a then rest_by roller else found_moves (archives_of (archive_name roller) roller.base roller.count) (waiting_if roller.background file) (files_of d)) []
      nothing true = subst (λ (m : List (List ℕ × List ℕ)). MovedAll (files_of d) m []) (sym (rest_none (archive_name roller) roller.base roller.job done)) refl
      nothing false = subst (λ (m : List (List ℕ × List ℕ)). MovedAll (files_of d) m []) (sym (found_none (archive_name roller) roller.base roller.count roller.background file (files_of d) why)) refl

-- all of them are a beginning, too
pub all_partly : (moves : List (List ℕ × List ℕ)) (d0 d1 : Disk) → Calls d0 d1 (MovedAll (files_of d0) moves) → Calls d0 d1 (MovedPartly (files_of d0) moves)
all_partly moves d0 d1 all = driven_stops moves d0 d1 d1 all (calls_none d1 (λ added. added ≡ []) refl)

-- So the archives show the segments of the start

idle_of : (files : Files) (name : List ℕ) (moves : List (List ℕ × List ℕ)) (added : List Change) → MovedAll files (if_there (files name) moves) added → files name ≡ None → added ≡ []
idle_of files name moves added moved none = subst (λ (v : Option (List ℕ)). MovedAll files (if_there v moves) added) none moved

pub opening_shows : (r : Result Unit LogError) (r0 r1 : FixedWindowRoller) (path : List ℕ) (d0 d1 : Disk) → SteppedAt (kept_by r0) (kept_by r1) path d0 d1
    → (IsTrue r0.background → 0 < r0.count → OnOk r (IsTrue r1.asked)) → OnOk r (r1.job ≡ None) → MadeMoves (kept_by r0) path r d0 d1 → r0.asked ≡ false
    → OnOk r (ShowsFromStart (kept_by r0) path d0 d1)
opening_shows (Err e) r0 r1 path d0 d1 stepped knows none made not = tt
opening_shows (Ok u) r0 r1 path d0 d1 stepped knows none made not = by r0.background r0.count refl refl where
  Made : List (List ℕ × List ℕ) → Type 0
  Made moves = Calls d0 d1 (MovedAll (files_of d0) moves)

  by : (b : Bool) (n : ℕ) → r0.background ≡ b → r0.count ≡ n → ShowsFromStart (kept_by r0) path d0 d1
  by false n off is =
      let nothing : opening_moves (kept_by r0) path (files_of d0) ≡ [] =
      ap (λ (a : Bool). if a then rest_by r0 else found_moves (archives_of (archive_name r0) r0.base r0.count) (waiting_if r0.background path) (files_of d0)) not
      ∙ found_none (archive_name r0) r0.base r0.count r0.background path (files_of d0) (inl off) in
      start_at_once r0 path d0 d1 off (subst Made nothing made.all)
  by true zero on is = subst (λ (n : ℕ). ShowsFromStart (window_with (archive_name r0) r0.base n r0.rename_only r0.background r0.asked r0.job) path d0 d1) (sym is) tt
  by true (suc n) on is =
      let some : 0 < r0.count = omega arith in
      start_behind r0 r1 path d0 d1 on not (still_background r0 r1 stepped.names on) (knows on some) none stepped
      (calls_map d0 d1 _ _ (subst Made (opening_unasked r0 path (files_of d0) on not some) made.all) (λ added tells told moved. idle_of (files_of d0) (waiting_name path) _ added moved))
