-- Operations that are counted, and what a store is known by.
use Rattle.std.proofs.Common.{inl, inr, Bool, true, false, ◌≡◌, ◌≤◌, ◌<◌, ◌+◌, ◌-◌, ◌^◌, ◌⊎◌, ℕ, zero, suc, List, [], ◌∷◌, ◌++◌, Option, Some, None, Result, Ok, Err, OnOk, OnErr, IfOk, IfErr, IsTrue, if◌then◌else◌, refl, sym, ap, ◌∙◌, subst, arith}
use Rattle.std.proofs.Math.Numerals.{add-one}
use Rattle.std.proofs.lemmas.List.{append-nil}
use Rattle.std.proofs.lemmas.Bool.Decides.{nat_tests}
use Rattle.log4rs_rolling.specs.Change.{Change}
use Rattle.std.specs.Str.{bytes_eq}
use Rattle.log4rs_rolling.specs.Disk.{Disk, Origin, Told, Does, Refuses, Counted, Uncounted, denials_after, denials_by, files_of, one_more, closed_at}
use Rattle.log4rs_rolling.proofs.Calls.{files_after}
use Rattle.log4rs_rolling.specs.declared.store.Renamed.{Renamed}
use Rattle.log4rs_rolling.specs.declared.store.Renamed.TheVariants.{Moved, Missing}
use Rattle.log4rs_rolling.specs.declared.store.StoreError.{StoreError}
use Rattle.log4rs_rolling.specs.declared.store.StoreError.TheVariants.{Refused, Absent, NotOpen}
use Rattle.log4rs_restarts.specs.Stops.{Start, counted, in_run, marked}

-- Counts

pub more_below : (n : ℕ) → n < 2 ^ 64 - 1 → one_more n ≡ n + 1
more_below n below = grind (arith, nat_tests)

pub more_full : (n : ℕ) → 2 ^ 64 - 1 ≤ n → one_more n ≡ n
more_full n full = grind (arith, nat_tests)

below_or : (n : ℕ) → (n < 2 ^ 64 - 1) ⊎ (2 ^ 64 - 1 ≤ n)
below_or n = grind (arith, nat_tests)

-- a refusal of the store
pub counted_one : (before more : ℕ) → counted (one_more before) more ≡ one_more (counted before more)
counted_one before zero = refl
counted_one before (suc more) = ap one_more (counted_one before more)

reaches : (before more : ℕ) → (more ≤ counted before more) ⊎ (2 ^ 64 - 1 ≤ counted before more)
reaches before zero = inl (omega arith)
reaches before (suc more) =
    elim (below_or (counted before more)) [
      | inl below ↦ elim (reaches before more) [
        | inl less ↦ inl (let e = more_below (counted before more) below in omega arith)
        | inr full ↦ absurd (omega arith)
      ]
      | inr full ↦ inr (let e = more_full (counted before more) full in omega arith)
    ]

counted_full : (before more : ℕ) → 2 ^ 64 - 1 ≤ more → counted before more ≡ one_more (counted before more)
counted_full before more full =
    elim (reaches before more) [
      | inl less ↦ sym (more_full (counted before more) (omega arith))
      | inr all ↦ sym (more_full (counted before more) all)
    ]

-- a refusal by the stop
pub counted_more : (before more : ℕ) → counted before (one_more more) ≡ one_more (counted before more)
counted_more before more =
    elim (below_or more) [
      | inl below ↦ ap (counted before) (more_below more below ∙ add-one more)
      | inr full ↦ ap (counted before) (more_full more full) ∙ counted_full before more full
    ]

-- Marks

abbrev behind : List ℕ → List ℕ
behind [] = []
behind (n ∷ ns) = ns

abbrev head : List ℕ → ℕ
head [] = 0
head (n ∷ ns) = n

abbrev start_in : Origin → Start
start_in origin =
    record {
      refusals = head origin.mark;
      operations = head (behind origin.mark);
      changes = head (behind (behind origin.mark));
      limit = head (behind (behind (behind origin.mark)));
    }

abbrev origin_in : Origin → Origin
origin_in origin = record { files = origin.files; mark = behind (behind (behind (behind origin.mark))) }

-- a mark stays
pub start_same : (m0 m1 : Start) (r0 r1 n0 n1 : ℕ) (d0 d1 : Disk) (added : List Change) → Told (marked m0 r0 n0 d0) (marked m1 r1 n1 d1) added → m1 ≡ m0
start_same m0 m1 r0 r1 n0 n1 d0 d1 added told = ap start_in told.start

pub unmarked : (m0 m1 : Start) (r0 r1 n0 n1 : ℕ) (d0 d1 : Disk) (added : List Change) → Told (marked m0 r0 n0 d0) (marked m1 r1 n1 d1) added → Told d0 d1 added
unmarked m0 m1 r0 r1 n0 n1 d0 d1 added told = record { start = ap origin_in told.start; changes = told.changes }

told_marked : (start : Start) (r0 r1 n0 n1 : ℕ) (d0 d1 : Disk) (added : List Change) → Told d0 d1 added → Told (marked start r0 n0 d0) (marked start r1 n1 d1) added
told_marked start r0 r1 n0 n1 d0 d1 added told = record { start = ap (in_run start) told.start; changes = told.changes }

-- Operations of a store that stops

-- no operation
pub still : (d : Disk) → Does d d [] d.refusals d.opened
still d =
    record {
      tells = refl;
      refusals = refl;
      told = λ tells. record { start = refl; changes = sym (append-nil d.changes) };
      opened = λ tells. refl;
    }

-- the stop refuses, behind what changed nothing
pub stop_refuses : (start : Start) (stopped0 stopped1 denied0 denied1 : ℕ) (d0 d1 : Disk) (path : Option (List ℕ))
    → Does d0 d1 [] d0.refusals path → stopped1 ≡ one_more stopped0 → Refuses (marked start stopped0 denied0 d0) (marked start stopped1 denied1 d1) path
stop_refuses start stopped0 stopped1 denied0 denied1 d0 d1 path does counts =
    record {
      tells = does.tells;
      refusals = ap (λ (n : ℕ). counted n stopped1) does.refusals ∙ ap (counted d0.refusals) counts ∙ counted_more d0.refusals stopped0;
      told = λ tells. told_marked start stopped0 stopped1 denied0 denied1 d0 d1 [] (does.told tells);
      opened = does.opened;
    }

-- the stop counts the operation that it refuses, and denies it if the error is `Refused`
stop_denies : (e : StoreError) (before denied : ℕ) → counted before (denials_by e denied) ≡ denials_by e (counted before denied)
stop_denies Refused before denied = counted_more before denied
stop_denies Absent before denied = refl
stop_denies NotOpen before denied = refl

pub stop_counts : {T : Type 0} (e : StoreError) (start : Start) (stopped0 stopped1 denied0 denied1 : ℕ) (d0 d1 : Disk)
    → d1.tells ≡ d0.tells → Uncounted d0 d1 → stopped1 ≡ one_more stopped0 → denied1 ≡ denials_by e denied0
    → Counted {T = T} (Err e) (marked start stopped0 denied0 d0) (marked start stopped1 denied1 d1)
stop_counts e start stopped0 stopped1 denied0 denied1 d0 d1 same none counts denies =
    record {
      tells = same;
      operations = λ tells. ap (λ (n : ℕ). counted n stopped1) (none.operations tells) ∙ ap (counted d0.operations) counts ∙ counted_more d0.operations stopped0;
      denials = λ tells. ap (λ (n : ℕ). counted n denied1) (none.denials tells) ∙ ap (counted d0.denials) denies ∙ stop_denies e d0.denials denied0;
    }

-- the store counts one, behind what counts none
store_denies : (e : StoreError) (before denied : ℕ) → counted (denials_by e before) denied ≡ denials_by e (counted before denied)
store_denies Refused before denied = counted_one before denied
store_denies Absent before denied = refl
store_denies NotOpen before denied = refl

denials_counted : {T : Type 0} (r : Result T StoreError) (before denied : ℕ) → counted (denials_after r before) denied ≡ denials_after r (counted before denied)
denials_counted (Ok t) before denied = refl
denials_counted (Err e) before denied = store_denies e before denied

pub store_counts : {T : Type 0} (r : Result T StoreError) (start : Start) (stopped denied : ℕ) (d0 d1 d2 : Disk)
    → d1.tells ≡ d0.tells → Uncounted d0 d1 → Counted r d1 d2 → Counted r (marked start stopped denied d0) (marked start stopped denied d2)
store_counts r start stopped denied d0 d1 d2 same none counts =
    record {
      tells = counts.tells ∙ same;
      operations = λ tells.
          let told = subst IsTrue (sym same) tells in
          ap (λ (n : ℕ). counted n stopped) (counts.operations told ∙ ap one_more (none.operations tells)) ∙ counted_one d0.operations stopped;
      denials = λ tells.
          let told = subst IsTrue (sym same) tells in
          ap (λ (n : ℕ). counted n denied) (counts.denials told ∙ ap (denials_after r) (none.denials tells)) ∙ denials_counted r d0.denials denied;
    }

-- nothing is open, so the store denies nothing, and the stop does
none_denied : (e : StoreError) (n : ℕ) → e ≡ NotOpen → denials_by e n ≡ n
none_denied e n is = ap (λ (x : StoreError). denials_by x n) is

pub lack_counts : {T U : Type 0} (e : StoreError) (start : Start) (stopped denied0 denied1 : ℕ) (d0 d1 d2 : Disk)
    → d1.tells ≡ d0.tells → Uncounted d0 d1 → Counted {T = U} (Err e) d1 d2 → (IsTrue d1.tells → e ≡ NotOpen) → denied1 ≡ one_more denied0
    → Counted {T = T} (Err Refused) (marked start stopped denied0 d0) (marked start stopped denied1 d2)
lack_counts e start stopped denied0 denied1 d0 d1 d2 same none counts shut denies =
    record {
      tells = counts.tells ∙ same;
      operations = λ tells.
          let told = subst IsTrue (sym same) tells in
          ap (λ (n : ℕ). counted n stopped) (counts.operations told ∙ ap one_more (none.operations tells)) ∙ counted_one d0.operations stopped;
      denials = λ tells.
          let told = subst IsTrue (sym same) tells in
          ap (λ (n : ℕ). counted n denied1) (counts.denials told ∙ none_denied e d1.denials (shut told) ∙ none.denials tells)
          ∙ ap (counted d0.denials) denies ∙ counted_more d0.denials denied0;
    }

-- no operation
pub uncounted_still : (d : Disk) → Uncounted d d
uncounted_still d = record { operations = λ tells. refl; denials = λ tells. refl }

-- one operation more was made
pub made_more : {T : Type 0} (r : Result T StoreError) (d0 d1 : Disk) (before passed0 passed1 : ℕ) → Counted r d0 d1 → (IsTrue d0.tells → d0.operations ≡ counted before passed0) → passed1 ≡ passed0 + 1
    → IsTrue d1.tells → d1.operations ≡ counted before passed1
made_more r d0 d1 before passed0 passed1 counts made next tells1 =
    let tells = subst IsTrue counts.tells tells1 in
    counts.operations tells ∙ ap one_more (made tells) ∙ sym (ap (counted before) (next ∙ add-one passed0))

-- a store goes on telling, whatever it answers
pub tells_by : {X Y : Type 0} (r : Result X Y) (P : X → Type 0) (Q : Type 0) (a b : Bool) → IfOk r P → OnErr r Q → ((x : X) → P x → a ≡ b) → (Q → a ≡ b) → a ≡ b
tells_by (Ok x) P Q a b p q f g = f x p
tells_by (Err e) P Q a b p q f g = g q

pub renamed_tells : (r : Result Renamed StoreError) (P Q R : Type 0) (a b : Bool) → (r ≡ Ok Moved → P) → (r ≡ Ok Missing → Q) → OnErr r R → (P → a ≡ b) → (Q → a ≡ b) → (R → a ≡ b) → a ≡ b
renamed_tells (Ok Moved) P Q R a b p q r f g h = f (p refl)
renamed_tells (Ok Missing) P Q R a b p q r f g h = g (q refl)
renamed_tells (Err e) P Q R a b p q r f g h = h r

-- the store refuses
pub store_refuses : (start : Start) (stopped denied0 denied1 : ℕ) (d0 d1 : Disk) (path : Option (List ℕ)) → Refuses d0 d1 path → Refuses (marked start stopped denied0 d0) (marked start stopped denied1 d1) path
store_refuses start stopped denied0 denied1 d0 d1 path does =
    record {
      tells = does.tells;
      refusals = ap (λ (n : ℕ). counted n stopped) does.refusals ∙ counted_one d0.refusals stopped;
      told = λ tells. told_marked start stopped stopped denied0 denied1 d0 d1 [] (does.told tells);
      opened = does.opened;
    }

told_later : (d0 d1 d2 : Disk) (added : List Change) → Told d0 d1 [] → Told d1 d2 added → Told d0 d2 added
told_later d0 d1 d2 added before now =
    record {
      start = now.start ∙ before.start;
      changes = now.changes ∙ ap (λ (c : List Change). c ++ added) (before.changes ∙ append-nil d0.changes);
    }

-- an operation behind what changed nothing, and the open file told otherwise
pub does_later : (d0 d1 d2 : Disk) (added : List Change) (path path1 path2 : Option (List ℕ)) → Does d0 d1 [] d0.refusals path1 → Does d1 d2 added d1.refusals path2
    → (IsTrue d0.tells → path2 ≡ path) → Does d0 d2 added d0.refusals path
does_later d0 d1 d2 added path path1 path2 before now same =
    record {
      tells = now.tells ∙ before.tells;
      refusals = now.refusals ∙ before.refusals;
      told = λ tells. told_later d0 d1 d2 added (before.told tells) (now.told (subst IsTrue (sym before.tells) tells));
      opened = λ tells. now.opened (subst IsTrue (sym before.tells) tells) ∙ same tells;
    }

pub refuses_later : (d0 d1 d2 : Disk) (path path1 path2 : Option (List ℕ)) → Does d0 d1 [] d0.refusals path1 → Refuses d1 d2 path2
    → (IsTrue d0.tells → path2 ≡ path) → Refuses d0 d2 path
refuses_later d0 d1 d2 path path1 path2 before now same =
    record {
      tells = now.tells ∙ before.tells;
      refusals = now.refusals ∙ ap one_more before.refusals;
      told = λ tells. told_later d0 d1 d2 [] (before.told tells) (now.told (subst IsTrue (sym before.tells) tells));
      opened = λ tells. now.opened (subst IsTrue (sym before.tells) tells) ∙ same tells;
    }

-- the files of a store that stops are those behind what changed nothing
pub same_files : (start : Start) (stopped denied : ℕ) (d0 d1 : Disk) (path : Option (List ℕ)) → Does d0 d1 [] d0.refusals path → IsTrue d0.tells → files_of (marked start stopped denied d0) ≡ files_of d1
same_files start stopped denied d0 d1 path does tells = sym (files_after d0 d1 [] (does.told tells))

pub on_ok : {X Y : Type 0} (r : Result X Y) (P Q : Type 0) → (P → Q) → OnOk r P → OnOk r Q
on_ok (Ok x) P Q f p = f p
on_ok (Err e) P Q f p = tt

pub on_err : {X Y : Type 0} (r : Result X Y) (P Q : Type 0) → (P → Q) → OnErr r P → OnErr r Q
on_err (Ok x) P Q f p = tt
on_err (Err e) P Q f p = f p

pub if_ok : {X Y : Type 0} (r : Result X Y) (P Q : X → Type 0) → ((x : X) → P x → Q x) → IfOk r P → IfOk r Q
if_ok (Ok x) P Q f p = f x p
if_ok (Err e) P Q f p = tt

pub if_ok_all : {X Y : Type 0} (r : Result X Y) (P Q R S : X → Type 0) → ((x : X) → P x → Q x → R x → S x) → IfOk r P → IfOk r Q → IfOk r R → IfOk r S
if_ok_all (Ok x) P Q R S f p q r = f x p q r
if_ok_all (Err e) P Q R S f p q r = tt

pub if_err : {X Y : Type 0} (r : Result X Y) (P Q : Y → Type 0) → ((e : Y) → P e → Q e) → IfErr r P → IfErr r Q
if_err (Ok x) P Q f p = tt
if_err (Err e) P Q f p = f e p

-- A file that is closed twice

again_at : (path at : List ℕ) (b : Bool) → bytes_eq at path ≡ b → closed_at path (if b then None else Some at) ≡ (if b then None else Some at)
again_at path at true is = refl
again_at path at false is = ap (λ (b : Bool). if b then None else Some at) is

closed_again : (path : List ℕ) (o : Option (List ℕ)) → closed_at path (closed_at path o) ≡ closed_at path o
closed_again path None = refl
closed_again path (Some at) = again_at path at (bytes_eq at path) refl

both_at : (from to at : List ℕ) (a b : Bool) → bytes_eq at to ≡ a → bytes_eq at from ≡ b
    → closed_at to (closed_at from (if a then None else Some at)) ≡ closed_at from (if a then None else Some at)
both_at from to at true b is_to is_from = refl
both_at from to at false true is_to is_from = ap (λ (b : Bool). closed_at to (if b then None else Some at)) is_from ∙ sym (ap (λ (b : Bool). if b then None else Some at) is_from)
both_at from to at false false is_to is_from =
    ap (λ (b : Bool). closed_at to (if b then None else Some at)) is_from ∙ ap (λ (b : Bool). if b then None else Some at) is_to ∙ sym (ap (λ (b : Bool). if b then None else Some at) is_from)

closed_both : (from to : List ℕ) (o : Option (List ℕ)) → closed_at to (closed_at from (closed_at to o)) ≡ closed_at from (closed_at to o)
closed_both from to None = refl
closed_both from to (Some at) = both_at from to at (bytes_eq at to) (bytes_eq at from) refl refl

-- the open file behind both, again
pub closed_twice : (from to : List ℕ) (o : Option (List ℕ)) → closed_at from (closed_at to (closed_at from (closed_at to o))) ≡ closed_at from (closed_at to o)
closed_twice from to o = ap (closed_at from) (closed_both from to o) ∙ closed_again from (closed_at to o)

pub closed_once : (path : List ℕ) (o : Option (List ℕ)) → closed_at path (closed_at path o) ≡ closed_at path o
closed_once path o = closed_again path o
