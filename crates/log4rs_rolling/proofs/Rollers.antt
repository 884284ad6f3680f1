-- What a fixed window keeps through a rolling.
use Rattle.std.proofs.Common.{IsTrue, ◌≡◌, ◌<◌, ◌≤◌, nat_eq, true, false, Bool, ℕ, ◌+◌, zero, suc, List, [], ◌∷◌, ◌++◌, Option, Some, None, refl, sym, ap, ◌∙◌, subst, Result, Ok, Err, OnOk, OnErr, ◌⊎◌, inl, inr}
use Rattle.std.specs.Option.{IfSome, MatchOption}
use Rattle.std.proofs.lemmas.List.{append-nil}
use Rattle.std.proofs.lemmas.Bool.Decides.{nat_tests}
use Rattle.log4rs_rolling.specs.Change.{Change, Files, renamed, copied, removed, written, replay}
use Rattle.log4rs_rolling.specs.Disk.{Disk, Calls, files_of}
use Rattle.log4rs_rolling.specs.declared.fixed_window.FixedWindowRoller.{FixedWindowRoller}
use Rattle.log4rs_rolling.specs.Window.{Window, names, around, Anywhere, NoCopies}
use Rattle.log4rs_rolling.specs.Keeping.{Keeping, RolledIn, RolledAs, Stands, Silent}
use Rattle.log4rs_rolling.specs.Moves.{MovedAll, MovedPartly, each_to_the_older, archive_names}
use Rattle.log4rs_rolling.specs.Roller.{archive_name, archives_of, rolling_of, moves_of, window_with, kept_by}
use Rattle.log4rs_rolling.proofs.Ending.{rotation_ends}
use Rattle.log4rs_base.specs.declared.error.LogError.{LogError}
use Rattle.std.proofs.Common.{arith}
use Rattle.log4rs_rolling.proofs.Calls.{calls_map}
use Rattle.log4rs_rolling.proofs.Written.{written-append}
use Rattle.log4rs_rolling.proofs.Windows.{moves_partly_good}
use Rattle.log4rs_rolling.specs.SegmentsShown.{ClosesIn}
use Rattle.log4rs_rolling.proofs.Standing.{at_once_closes}
use Rattle.log4rs_rolling.proofs.Moving.{on_err}
use Rattle.log4rs_rolling.proofs.Parts.{if_all}

-- an answered or a refused rotation makes a beginning of its moves
pub rotated_partly : {T E : Type 0} (Q : Type 0) (d0 d1 : Disk) (moves : List (List ℕ × List ℕ)) (r : Result T E)
    → OnOk r (Calls d0 d1 (λ added. MovedAll (files_of d0) moves added × (Q → NoCopies added)))
    → OnErr r (Calls d0 d1 (λ added. MovedPartly (files_of d0) moves added × (Q → NoCopies added)))
    → Calls d0 d1 (MovedPartly (files_of d0) moves)
rotated_partly Q d0 d1 moves (Ok t) ok err =
    calls_map d0 d1 _ (MovedPartly (files_of d0) moves) ok
    (λ added tells told moved. ([], subst (MovedAll (files_of d0) moves) (sym (append-nil added)) moved.0, λ _. tt))
rotated_partly Q d0 d1 moves (Err e) ok err =
    calls_map d0 d1 _ (MovedPartly (files_of d0) moves) err (λ added tells told moved. moved.0)

-- moves write nothing

pub moved_silent : (v : Option (List ℕ)) (from to path : List ℕ) (changes : List Change)
    → MatchOption v (changes ≡ []) (λ _. (changes ≡ renamed from to ∷ []) ⊎ (changes ≡ copied from to ∷ removed from ∷ []))
    → written path changes ≡ []
moved_silent None from to path changes moved = ap (written path) moved
moved_silent (Some x) from to path changes moved = elim moved [ inl once ↦ ap (written path) once | inr twice ↦ ap (written path) twice ]

moves_silent : (files : Files) (moves : List (List ℕ × List ℕ)) (path : List ℕ) (changes : List Change) → MovedAll files moves changes → written path changes ≡ []
moves_silent files [] path changes moved = ap (written path) moved
moves_silent files (move ∷ moves) path changes moved =
    ap (written path) moved.2
    ∙ written-append path moved.0 moved.1
    ∙ ap (λ (c : List ℕ). c ++ written path moved.1) (moved_silent (files move.0) move.0 move.1 path moved.0 moved.3)
    ∙ moves_silent (replay files moved.0) moves path moved.1 moved.4

front_nil : (xs ys : List ℕ) → xs ++ ys ≡ [] → xs ≡ []
front_nil [] ys e = refl
front_nil (x ∷ xs) ys e = cc

partly_silent : (files : Files) (moves : List (List ℕ × List ℕ)) (path : List ℕ) (changes : List Change) → MovedPartly files moves changes → written path changes ≡ []
partly_silent files moves path changes moved =
    front_nil (written path changes) (written path moved.0) (sym (written-append path changes moved.0) ∙ moves_silent files moves path (changes ++ moved.0) moved.1)

partly_written : (moves : List (List ℕ × List ℕ)) (d0 d1 : Disk) → Calls d0 d1 (MovedPartly (files_of d0) moves) → Calls d0 d1 Silent
partly_written moves d0 d1 calls = calls_map d0 d1 _ Silent calls (λ added tells told moved. λ path. partly_silent (files_of d0) moves path added moved)

pub rotation_silent : {T E : Type 0} (Q : Type 0) (d0 d1 : Disk) (moves : List (List ℕ × List ℕ)) (r : Result T E)
    → OnOk r (Calls d0 d1 (λ added. MovedAll (files_of d0) moves added × (Q → NoCopies added)))
    → OnErr r (Calls d0 d1 (λ added. MovedPartly (files_of d0) moves added × (Q → NoCopies added)))
    → Calls d0 d1 Silent
rotation_silent Q d0 d1 moves r ok err = partly_written moves d0 d1 (rotated_partly Q d0 d1 moves r ok err)

pub rotation_clean : {T E : Type 0} (Q : Type 0) (d0 d1 : Disk) (moves : List (List ℕ × List ℕ)) (r : Result T E)
    → OnOk r (Calls d0 d1 (λ added. MovedAll (files_of d0) moves added × (Q → NoCopies added)))
    → OnErr r (Calls d0 d1 (λ added. MovedPartly (files_of d0) moves added × (Q → NoCopies added)))
    → Q → Calls d0 d1 NoCopies
rotation_clean Q d0 d1 moves (Ok t) ok err only = calls_map d0 d1 _ NoCopies ok (λ added tells told moved. moved.1 only)
rotation_clean Q d0 d1 moves (Err e) ok err only = calls_map d0 d1 _ NoCopies err (λ added tells told moved. moved.1 only)

archives_kept : (roller : FixedWindowRoller) (count : ℕ) (file : List ℕ) (d0 d1 : Disk)
    → Calls d0 d1 (MovedPartly (files_of d0) (each_to_the_older (archive_names (archive_name roller) roller.base count ++ file ∷ [])))
    → IfSome (archives_of (archive_name roller) roller.base count) (λ older. Stands (around older None file) Anywhere d0 → Calls d0 d1 (RolledIn 1 Anywhere (around older None file) (files_of d0)))
archives_kept roller zero file d0 d1 calls = tt
archives_kept roller (suc n) file d0 d1 calls = λ stands.
    let name = archive_name roller in
    let rest = archive_names name roller.base n ++ file ∷ [] in
    let w : Window = around (archive_names name roller.base (suc n)) None file in
    let is : names w ≡ name (roller.base + n) ∷ (rest ++ []) =
    ap (λ (l : List (List ℕ)). l ++ file ∷ []) (append-nil (archive_names name roller.base (suc n))) ∙ ap (λ (l : List (List ℕ)). name (roller.base + n) ∷ l) (sym (append-nil rest)) in
    calls_map d0 d1 _ (RolledIn 1 Anywhere w (files_of d0)) calls
    (λ added tells told moved. (
      (
        (
          partly_silent (files_of d0) _ file added moved,
          λ clean. moves_partly_good w (name (roller.base + n)) (archive_names name roller.base n) rest [] (files_of d0) added refl is stands.0 clean moved,
        ),
        tt,
      ),
      λ clean places at are cut. rotation_ends w (name (roller.base + n)) (archive_names name roller.base n) (files_of d0) added places at
          (append-nil (archive_names name roller.base (suc n))) stands.0 clean moved are (cut refl),
    ))

-- the moves of a rotation that was answered Ok
rotated : {T E : Type 0} (roller : FixedWindowRoller) (count : ℕ) (file : List ℕ) (Q : Type 0) (d0 d1 : Disk) (r : Result T E)
    → OnOk r (Calls d0 d1 (λ added. MovedAll (files_of d0) (each_to_the_older (archive_names (archive_name roller) roller.base count ++ file ∷ [])) added × (Q → NoCopies added)))
    → IfSome (rolling_of (archive_name roller) roller.base count file) (λ moves. OnOk r (Calls d0 d1 (MovedAll (files_of d0) moves)))
rotated roller zero file Q d0 d1 r ok = tt
rotated roller (suc n) file Q d0 d1 (Err e) ok = tt
rotated roller (suc n) file Q d0 d1 (Ok t) ok = calls_map d0 d1 _ _ ok (λ added tells told moved. moved.0)

-- and of one that was not
rotated_not : {T E : Type 0} (roller : FixedWindowRoller) (count : ℕ) (file : List ℕ) (Q : Type 0) (d0 d1 : Disk) (r : Result T E)
    → OnErr r (Calls d0 d1 (λ added. MovedPartly (files_of d0) (each_to_the_older (archive_names (archive_name roller) roller.base count ++ file ∷ [])) added × (Q → NoCopies added)))
    → IfSome (rolling_of (archive_name roller) roller.base count file) (λ moves. OnErr r (Calls d0 d1 (MovedPartly (files_of d0) moves)))
rotated_not roller zero file Q d0 d1 r err = tt
rotated_not roller (suc n) file Q d0 d1 (Ok t) err = tt
rotated_not roller (suc n) file Q d0 d1 (Err e) err = calls_map d0 d1 _ _ err (λ added tells told moved. moved.0)

-- and what they close
rotation_closes : {T E : Type 0} (roller : FixedWindowRoller) (count : ℕ) (file : List ℕ) (Q told : Type 0) (d0 d1 : Disk) (r : Result T E)
    → OnOk r (Calls d0 d1 (λ added. MovedAll (files_of d0) (each_to_the_older (archive_names (archive_name roller) roller.base count ++ file ∷ [])) added × (Q → NoCopies added)))
    → IfSome (archives_of (archive_name roller) roller.base count) (λ older. let w = around older None file in told → Stands w Anywhere d0 → OnOk r (Calls d0 d1 (ClosesIn Anywhere Anywhere w (files_of d0))))
rotation_closes roller zero file Q told d0 d1 r ok = tt
rotation_closes roller (suc n) file Q told d0 d1 (Err e) ok = λ known stands. tt
rotation_closes roller (suc n) file Q told d0 d1 (Ok t) ok = λ known stands.
    calls_map d0 d1 _ _ ok (λ added tells told moved. at_once_closes (archive_names (archive_name roller) roller.base (suc n)) file (files_of d0) added (omega arith) stands.0 moved.0)

one_or_less : {T E : Type 0} (r : Result T E) → OnErr r (1 ≤ 1)
one_or_less (Ok t) = tt
one_or_less (Err e) = omega arith

pub not_none : (count : ℕ) → 0 < count → nat_eq count 0 ≡ true → ⊥
not_none count some none = grind (arith, nat_tests)

abbrev at_once : Bool → FixedWindowRoller → Keeping
at_once b roller = window_with (archive_name roller) roller.base roller.count roller.rename_only b roller.asked roller.job

pub rotation_rolled : (roller : FixedWindowRoller) (file : List ℕ) (Q : Type 0) (d0 d1 : Disk) (r : Result Unit LogError)
    → OnOk r (Calls d0 d1 (λ added. MovedAll (files_of d0) (moves_of roller file) added × (Q → NoCopies added)))
    → OnErr r (Calls d0 d1 (λ added. MovedPartly (files_of d0) (moves_of roller file) added × (Q → NoCopies added)))
    → 0 < roller.count → roller.background ≡ false → RolledAs (kept_by roller) (kept_by roller) file r d0 d1
rotation_rolled roller file Q d0 d1 r ok err some not =
    subst (λ (b : Bool). RolledAs (at_once b roller) (at_once b roller) file r d0 d1) (sym not)
    (record {
      kept = archives_kept roller roller.count file d0 d1 (rotated_partly Q d0 d1 (moves_of roller file) r ok err);
      moved = rotated roller roller.count file Q d0 d1 r ok;
      removed = λ none. absurd (not_none roller.count some none);
      closes = rotation_closes roller roller.count file Q (IsTrue true) d0 d1 r ok;
      fewer = if_all (archives_of (archive_name roller) roller.base roller.count) (λ older. Stands (around older None file) Anywhere d0 → OnErr r (1 ≤ 1)) (λ older. λ stands. one_or_less r);
      partly = rotated_not roller roller.count file Q d0 d1 r err;
      begun = λ known. on_err r ([], refl);
      left = if_all (archives_of (archive_name roller) roller.base roller.count) (λ older. Unit {0}) (λ older. tt);
    })
