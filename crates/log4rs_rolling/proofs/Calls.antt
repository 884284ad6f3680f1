-- Calls of several operations, one after another.
use Rattle.std.proofs.Common.{◌≡◌, ◌≤◌, ℕ, List, [], ◌∷◌, ◌++◌, Option, refl, sym, ap, ◌∙◌, subst, append_assoc, arith, IsTrue, true}
use Rattle.std.proofs.lemmas.List.{append-nil}
use Rattle.std.proofs.lemmas.Bool.Decides.{nat_tests}
use Rattle.log4rs_rolling.specs.Change.{Change, Files, replay, after}
use Rattle.std.specs.Str.{bytes_eq}
use Rattle.std.proofs.lemmas.Slice.Eq.{bytes_eq-Decides}
use Rattle.log4rs_rolling.specs.Disk.{Disk, Origin, Told, Does, Calls, files_of, one_more}

-- no operation yet
pub calls_none : (disk : Disk) (P : List Change → Type 0) → P [] → Calls disk disk P
calls_none disk P none =
    record {
      tells = refl;
      refusals = omega arith;
      told = λ tells. ([], record { start = refl; changes = sym (append-nil disk.changes) }, none);
    }

-- one operation
pub calls_one : (d0 d1 : Disk) (path : Option (List ℕ)) (P : List Change → Type 0) (es : List Change) (r : ℕ)
    → Does d0 d1 es r path → d0.refusals ≤ r → (IsTrue d0.tells → P es) → Calls d0 d1 P
calls_one d0 d1 path P es r does grows holds =
    record {
      tells = does.tells;
      refusals = let count = does.refusals in omega arith;
      told = λ tells. (es, does.told tells, holds tells);
    }

-- what holds of what was added, by what is known of it
pub calls_map : (d0 d1 : Disk) (P Q : List Change → Type 0) → Calls d0 d1 P
    → ((added : List Change) → IsTrue d0.tells → Told d0 d1 added → P added → Q added) → Calls d0 d1 Q
calls_map d0 d1 P Q calls step =
    record {
      tells = calls.tells;
      refusals = calls.refusals;
      told = λ tells. let was = calls.told tells in (was.0, was.1, step was.0 tells was.1 was.2);
    }

-- two calls, one after the other
pub calls_join : (d0 d1 d2 : Disk) (P Q R : List Change → Type 0)
    → Calls d0 d1 P → Calls d1 d2 Q
    → ((xs ys : List Change) → IsTrue d0.tells → Told d0 d1 xs → P xs → Q ys → R (xs ++ ys))
    → Calls d0 d2 R
calls_join d0 d1 d2 P Q R before now step =
    record {
      tells = now.tells ∙ before.tells;
      refusals = let least = before.refusals in let more = now.refusals in omega arith;
      told = λ tells.
          let was = before.told tells in
          let is = now.told (subst IsTrue (sym before.tells) tells) in (
            was.0 ++ is.0,
            record {
              start = is.1.start ∙ was.1.start;
              changes = is.1.changes ∙ ap (λ (c : List Change). c ++ is.0) was.1.changes ∙ append_assoc d0.changes was.0 is.0;
            },
            step was.0 is.0 tells was.1 was.2 is.2,
          );
    }

pub same_path : (path : List ℕ) → bytes_eq path path ≡ true
same_path path = (bytes_eq-Decides path path).1 refl

pub replay-append : (files : Files) (xs ys : List Change) → replay files (xs ++ ys) ≡ replay (replay files xs) ys
replay-append files [] ys = refl
replay-append files (x ∷ xs) ys = replay-append (after files x) xs ys

-- the files after what was added
pub files_after : (d0 d1 : Disk) (added : List Change) → Told d0 d1 added → files_of d1 ≡ replay (files_of d0) added
files_after d0 d1 added told =
    ap (λ (o : Origin). replay o.files d1.changes) told.start
    ∙ ap (replay d0.start.files) told.changes
    ∙ replay-append d0.start.files d0.changes added

pub one_more_above : (n : ℕ) → n ≤ one_more n
one_more_above n = grind (arith, nat_tests)
