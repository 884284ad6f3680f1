-- Moves in part and as a whole.
use Rattle.std.proofs.Common.{rules, ◌≡◌, ℕ, ◌+◌, zero, suc, List, [], ◌∷◌, ◌++◌, Option, Some, None, refl, sym, ap, ◌∙◌, subst, ◌⊎◌, inl, inr, append_assoc, arith, IsTrue, Bool, Result, Ok, Err, OnErr, OnOk, ◌<◌, ◌≤◌, ◌-◌, IfErr}
use Rattle.std.specs.Option.{MatchOption, IsSome}
use Rattle.std.proofs.lemmas.List.{append-nil}
use Rattle.log4rs_rolling.specs.Change.{Change, copied, renamed, removed, Files, replay}
use Rattle.log4rs_rolling.specs.Disk.{Disk, Does, Calls, Refuses, files_of, one_more}
use Rattle.log4rs_rolling.specs.Window.{NoCopies}
use Rattle.log4rs_rolling.specs.Moves.{Moved, MovedHalf, MovedAll, MovedPartly, each_to_the_older, archive_names, Renames}
use Rattle.log4rs_rolling.proofs.Calls.{replay-append}
use Rattle.log4rs_rolling.proofs.Windows.{NoCopies-back, NoCopies-append}
use Rattle.log4rs_rolling.specs.Copies.{OnlyRenames}
use Rattle.log4rs_rolling.proofs.Copying.{only_before, only_behind}
use Rattle.log4rs_rolling.proofs.Calls.{calls_one, calls_map, calls_join, files_after, one_more_above}
use Rattle.log4rs_rolling.specs.OperationResults.{MovedBy}
use Rattle.log4rs_rolling.specs.Keeping.{StaysClosed}
use Rattle.log4rs_rolling.specs.Faults.{MayAnswer}
use Rattle.log4rs_base.specs.declared.error.LogError.{LogError}

moves_of : (v : Option (List ℕ)) (from to : List ℕ)
    → (changes : List Change) × MatchOption v (changes ≡ []) (λ _. (changes ≡ renamed from to ∷ []) ⊎ (changes ≡ copied from to ∷ removed from ∷ [])) × NoCopies changes
moves_of None from to = ([], refl, tt)
moves_of (Some x) from to = (renamed from to ∷ [], inl refl, tt)

-- any move can be made
pub can_move : (files : Files) (from to : List ℕ) → (changes : List Change) × Moved files from to changes × NoCopies changes
can_move files from to = moves_of (files from) from to

pub half_none : (files : Files) (from to : List ℕ) → MovedHalf files from to []
half_none files from to = let all = can_move files from to in (all.0, all.1, λ _. all.2)

copy_of : (v : Option (List ℕ)) (from to : List ℕ) → IsSome v
    → MatchOption v (copied from to ∷ removed from ∷ [] ≡ []) (λ _. (copied from to ∷ removed from ∷ [] ≡ renamed from to ∷ []) ⊎ (copied from to ∷ removed from ∷ [] ≡ copied from to ∷ removed from ∷ []))
copy_of None from to some = absurd (search rules)
copy_of (Some x) from to some = inr refl

pub half_copied : (files : Files) (from to : List ℕ) → IsSome (files from) → MovedHalf files from to (copied from to ∷ [])
half_copied files from to some = (removed from ∷ [], copy_of (files from) from to some, λ _. tt)

-- a refused copy, and a refused removal after a copy

pub copy_refused : (d0 d1 : Disk) (path : Option (List ℕ)) (from to : List ℕ) → Refuses d0 d1 path → Calls d0 d1 (MovedHalf (files_of d0) from to)
copy_refused d0 d1 path from to refused =
    calls_one d0 d1 path (MovedHalf (files_of d0) from to) [] (one_more d0.refusals) refused (one_more_above d0.refusals) (λ _. half_none (files_of d0) from to)

pub remove_refused : (d0 d1 d2 : Disk) (p1 p2 : Option (List ℕ)) (from to : List ℕ)
    → Does d0 d1 (copied from to ∷ []) d0.refusals p1 → (IsTrue d0.tells → IsSome (files_of d0 from)) → Refuses d1 d2 p2
    → Calls d0 d2 (MovedHalf (files_of d0) from to)
remove_refused d0 d1 d2 p1 p2 from to copied_over present refused =
    calls_join d0 d1 d2 (λ es. (es ≡ copied from to ∷ []) × IsSome (files_of d0 from)) (λ es. es ≡ []) (MovedHalf (files_of d0) from to)
    (calls_one d0 d1 p1 _ (copied from to ∷ []) d0.refusals copied_over (omega arith) (λ tells. (refl, present tells)))
    (calls_one d1 d2 p2 _ [] (one_more d1.refusals) refused (one_more_above d1.refusals) (λ _. refl))
    (λ xs ys tells told was is.
    subst (MovedHalf (files_of d0) from to) (sym (ap (λ (c : List Change). xs ++ c) is ∙ append-nil xs ∙ was.0)) (half_copied (files_of d0) from to was.1))

-- where only renames are wanted, nothing was done
pub rename_refused : (d0 d1 : Disk) (path : Option (List ℕ)) (from to : List ℕ) (Q : Type 0) → Refuses d0 d1 path
    → Calls d0 d1 (λ added. MovedHalf (files_of d0) from to added × (Q → NoCopies added))
rename_refused d0 d1 path from to Q refused =
    calls_one d0 d1 path (λ added. MovedHalf (files_of d0) from to added × (Q → NoCopies added)) [] (one_more d0.refusals) refused (one_more_above d0.refusals)
    (λ _. (half_none (files_of d0) from to, λ _. tt))

-- Lists of moves

pub can_move_all : (files : Files) (moves : List (List ℕ × List ℕ)) → (changes : List Change) × MovedAll files moves changes × NoCopies changes
can_move_all files [] = ([], refl, tt)
can_move_all files (move ∷ moves) =
    let first = can_move files move.0 move.1 in
    let others = can_move_all (replay files first.0) moves in
    (first.0 ++ others.0, (first.0, others.0, refl, first.1, others.1), NoCopies-append first.0 others.0 first.2 others.2)

-- whatever the moves that are left change, behind what was added it is what all the moves change
abbrev pub Leads : Files → List (List ℕ × List ℕ) → List (List ℕ × List ℕ) → List Change → Type 0
Leads files all left added = (es : List Change) → MovedAll (replay files added) left es → MovedAll files all (added ++ es)

pub leads_none : (files : Files) (all : List (List ℕ × List ℕ)) → Leads files all all []
leads_none files all = λ es moved. moved

pub leads_more : (files : Files) (all left : List (List ℕ × List ℕ)) (move : List ℕ × List ℕ) (added first : List Change)
    → Leads files all (move ∷ left) added → Moved (replay files added) move.0 move.1 first → Leads files all left (added ++ first)
leads_more files all left move added first leads moved = λ es others.
    subst (MovedAll files all) (sym (append_assoc added first es))
    (leads (first ++ es) (first, es, refl, moved, subst (λ (f : Files). MovedAll f left es) (replay-append files added first) others))

pub leads_stop : (files : Files) (all left : List (List ℕ × List ℕ)) (added : List Change) → Leads files all left added → MovedPartly files all added
leads_stop files all left added leads =
    let others = can_move_all (replay files added) left in
    (others.0, leads others.0 others.1, λ _. others.2)

pub leads_half : (files : Files) (all left : List (List ℕ × List ℕ)) (move : List ℕ × List ℕ) (added half : List Change)
    → Leads files all (move ∷ left) added → MovedHalf (replay files added) move.0 move.1 half → MovedPartly files all (added ++ half)
leads_half files all left move added half leads moved =
    let rest = can_move_all (replay (replay files added) (half ++ moved.0)) left in (
      moved.0 ++ rest.0,
      subst (MovedAll files all)
          (ap (λ (c : List Change). added ++ c) (append_assoc half moved.0 rest.0) ∙ sym (append_assoc added half (moved.0 ++ rest.0)))
          (leads ((half ++ moved.0) ++ rest.0) (half ++ moved.0, rest.0, refl, moved.1, rest.1)),
      λ clean. NoCopies-append moved.0 rest.0 (moved.2 (NoCopies-back added half clean)) rest.2,
    )

pub leads_end : (files : Files) (all : List (List ℕ × List ℕ)) (added : List Change) → Leads files all [] added → MovedAll files all added
leads_end files all added leads = subst (MovedAll files all) (append-nil added) (leads [] refl)

-- Calls that make the moves

-- what was added leads on, and has no copy where Q
abbrev pub Rotating : Disk → List (List ℕ × List ℕ) → List (List ℕ × List ℕ) → Type 0 → List Change → Type 0
Rotating disk all left Q added = Leads (files_of disk) all left added × (Q → NoCopies added)

pub rotation_goes_on : (d0 d1 d2 : Disk) (all left : List (List ℕ × List ℕ)) (move : List ℕ × List ℕ) (b : Bool)
    → Calls d0 d1 (Rotating d0 all (move ∷ left) (OnlyRenames b d0 d1))
    → Calls d1 d2 (λ added. Moved (files_of d1) move.0 move.1 added × (OnlyRenames b d1 d2 → NoCopies added))
    → Calls d0 d2 (Rotating d0 all left (OnlyRenames b d0 d2))
rotation_goes_on d0 d1 d2 all left move b before now =
    calls_join d0 d1 d2 (Rotating d0 all (move ∷ left) (OnlyRenames b d0 d1)) _ (Rotating d0 all left (OnlyRenames b d0 d2)) before now
    (λ xs ys tells told was is. (
      leads_more (files_of d0) all left move xs ys was.0 (subst (λ (f : Files). Moved f move.0 move.1 ys) (files_after d0 d1 xs told) is.0),
      λ q. NoCopies-append xs ys (was.1 (only_before b d0 d1 d2 now.refusals q)) (is.1 (only_behind b d0 d1 d2 before.refusals q)),
    ))

pub rotation_breaks : (d0 d1 d2 : Disk) (all left : List (List ℕ × List ℕ)) (move : List ℕ × List ℕ) (b : Bool)
    → Calls d0 d1 (Rotating d0 all (move ∷ left) (OnlyRenames b d0 d1))
    → Calls d1 d2 (λ added. MovedHalf (files_of d1) move.0 move.1 added × (OnlyRenames b d1 d2 → NoCopies added))
    → Calls d0 d2 (λ added. MovedPartly (files_of d0) all added × (OnlyRenames b d0 d2 → NoCopies added))
rotation_breaks d0 d1 d2 all left move b before now =
    calls_join d0 d1 d2 (Rotating d0 all (move ∷ left) (OnlyRenames b d0 d1)) _ _ before now
    (λ xs ys tells told was is. (
      leads_half (files_of d0) all left move xs ys was.0 (subst (λ (f : Files). MovedHalf f move.0 move.1 ys) (files_after d0 d1 xs told) is.0),
      λ q. NoCopies-append xs ys (was.1 (only_before b d0 d1 d2 now.refusals q)) (is.1 (only_behind b d0 d1 d2 before.refusals q)),
    ))

pub rotation_ends : (d0 d1 : Disk) (all : List (List ℕ × List ℕ)) (Q : Type 0) → Calls d0 d1 (Rotating d0 all [] Q)
    → Calls d0 d1 (λ added. MovedAll (files_of d0) all added × (Q → NoCopies added))
rotation_ends d0 d1 all Q calls =
    calls_map d0 d1 (Rotating d0 all [] Q) _ calls (λ added tells told was. (leads_end (files_of d0) all added was.0, was.1))

pub partly_none : (d0 d1 : Disk) (all : List (List ℕ × List ℕ)) (Q : Type 0) → Calls d0 d1 (λ added. added ≡ [])
    → Calls d0 d1 (λ added. MovedPartly (files_of d0) all added × (Q → NoCopies added))
partly_none d0 d1 all Q calls =
    calls_map d0 d1 (λ added. added ≡ []) _ calls
    (λ added tells told none.
    subst (λ (c : List Change). MovedPartly (files_of d0) all c × (Q → NoCopies c)) (sym none)
    (leads_stop (files_of d0) all all [] (leads_none (files_of d0) all), λ _. tt))

pub on_err : {T E X : Type 0} (r : Result T E) → X → OnErr r X
on_err (Ok t) x = tt
on_err (Err e) x = x

pub on_err_map : {T E X Y : Type 0} (r : Result T E) → (X → Y) → OnErr r X → OnErr r Y
on_err_map (Ok t) f h = tt
on_err_map (Err e) f h = f h

pub on_ok_both : {T E : Type 0} (r : Result T E) (X Y : Type 0) → OnOk r X → OnOk r Y → OnOk r (X × Y)
on_ok_both (Ok t) X Y x y = (x, y)
on_ok_both (Err e) X Y x y = tt

pub on_ok_map : {T E X Y : Type 0} (r : Result T E) → (X → Y) → OnOk r X → OnOk r Y
on_ok_map (Ok t) f h = f h
on_ok_map (Err e) f h = tt

-- the moves that are left where the archive at this index is the next to get another's place
abbrev pub moves_left : (ℕ → List ℕ) → ℕ → ℕ → List ℕ → List (List ℕ × List ℕ)
moves_left name base at file = each_to_the_older (archive_names name base (suc at) ++ file ∷ [])

pub moves_left_above : (name : ℕ → List ℕ) (base at : ℕ) (file : List ℕ) → 0 < at
    → moves_left name base at file ≡ (name (base + (at - 1)), name (base + at)) ∷ moves_left name base (at - 1) file
moves_left_above name base zero file h = absurd (omega arith)
moves_left_above name base (suc t) file h =
    let e : t ≡ suc t - 1 = omega arith in
    ap (λ (k : ℕ). (name (base + k), name (base + suc t)) ∷ moves_left name base k file) e

pub moves_left_last : (name : ℕ → List ℕ) (base at : ℕ) (file : List ℕ) → at ≤ 0
    → moves_left name base at file ≡ (file, name base) ∷ []
moves_left_last name base zero file h = let e : base + 0 ≡ base = omega arith in ap (λ (k : ℕ). (file, name k) ∷ []) e
moves_left_last name base (suc t) file h = absurd (omega arith)

-- no move yet is a beginning of one
pub nothing_moved : (d0 d1 : Disk) (from to : List ℕ) (Q : Type 0) → Calls d0 d1 (λ added. added ≡ [])
    → Calls d0 d1 (λ added. MovedHalf (files_of d0) from to added × (Q → NoCopies added))
nothing_moved d0 d1 from to Q calls =
    calls_map d0 d1 (λ added. added ≡ []) _ calls
    (λ added tells told none.
    subst (λ (c : List Change). MovedHalf (files_of d0) from to c × (Q → NoCopies c)) (sym none)
    (half_none (files_of d0) from to, λ _. tt))

pub not_moved : (All Part : Files → List Change → Type 0) (rename_only : Bool) (r : Result Unit LogError) (d0 d1 : Disk) → ((X : Type 0) → OnOk r X)
    → Calls d0 d1 (λ added. Part (files_of d0) added × Renames rename_only d0 d1 added) → StaysClosed d0 d1 → IfErr r (MayAnswer d0.refusals d1.refusals) → MovedBy All Part rename_only r d0 d1
not_moved All Part rename_only r d0 d1 failed part closed fault =
    record {
      ok = failed (Calls d0 d1 (λ added. All (files_of d0) added × Renames rename_only d0 d1 added));
      err = on_err r part;
      unrefused = λ only. failed (d1.refusals ≡ d0.refusals);
      closed = closed;
      fault = fault;
    }
