-- What calls of several operations cost.
use Rattle.std.proofs.Common.{◌≡◌, ◌≢◌, ◌↔◌, ◌≤◌, ◌<◌, ◌+◌, ◌-◌, ◌*◌, ℕ, zero, suc, List, [], ◌∷◌, ◌++◌, length, Option, Some, None, string_bytes, unwrap_or, refl, sym, ap, ◌∙◌, subst, arith, IsTrue, Result, Ok, Err, IfErr}
use Rattle.std.specs.Option.{ForSome, IsSome}
use Rattle.std.proofs.lemmas.Bool.Decides.{nat_tests}
use Rattle.log4rs_base.specs.declared.error.LogError.{LogError}
use Rattle.log4rs_base.specs.declared.error.LogError.TheVariants.{Store}
use Rattle.log4rs_rolling.specs.declared.store.StoreError.{StoreError}
use Rattle.log4rs_rolling.specs.declared.store.StoreError.TheVariants.{Refused, Absent, NotOpen}
use Rattle.log4rs_rolling.specs.Costs.{Caused, Costs, Makes}
use Rattle.log4rs_rolling.specs.Disk.{Disk, Counted, SameOpen, Uncounted, Grew, denials_after, denials_by, one_more}
use Rattle.log4rs_rolling.specs.declared.fixed_window.Job.{Job}
use Rattle.log4rs_rolling.specs.declared.fixed_window.FixedWindowRoller.{FixedWindowRoller}
use Rattle.log4rs_rolling.specs.Keeping.{SameNames, rotation_cost}
use Rattle.log4rs_rolling.specs.Moves.{archive_names, each_to_the_older}
use Rattle.log4rs_rolling.specs.Roller.{archive_name, archives_of, kept_by, left_of, rest_by, rest_of}
use Rattle.log4rs_rolling.specs.Background.{step_cost}
use Rattle.log4rs_rolling.proofs.Calls.{one_more_above}
use Rattle.log4rs_rolling.proofs.Copying.{more_above}

-- Counts

one_at_most : (n : ℕ) → one_more n ≤ n + 1
one_at_most n = grind (arith, nat_tests)

by_more : (e : StoreError) (n : ℕ) → n ≤ denials_by e n
by_more Refused n = one_more_above n
by_more Absent n = omega arith
by_more NotOpen n = omega arith

after_more : {T : Type 0} (r : Result T StoreError) (n : ℕ) → n ≤ denials_after r n
after_more (Ok t) n = omega arith
after_more (Err e) n = by_more e n

-- How many operations

pub makes_none : (n : ℕ) (disk : Disk) → Makes n disk disk
makes_none n disk = record { tells = refl; operations = λ tells. omega arith; denials = λ tells. omega arith }

pub makes_within : (m n : ℕ) (d0 d1 : Disk) → Makes m d0 d1 → m ≤ n → Makes n d0 d1
makes_within m n d0 d1 made within =
    record {
      tells = made.tells;
      operations = λ tells. let most = made.operations tells in omega arith;
      denials = made.denials;
    }

-- two calls, one after the other
pub makes_join : (m n k : ℕ) (d0 d1 d2 : Disk) → Makes m d0 d1 → Makes n d1 d2 → m + n ≤ k → Makes k d0 d2
makes_join m n k d0 d1 d2 before now within =
    record {
      tells = now.tells ∙ before.tells;
      operations = λ tells.
          let first = before.operations tells in
          let last = now.operations (subst IsTrue (sym before.tells) tells) in omega arith;
      denials = λ tells.
          let first = before.denials tells in
          let last = now.denials (subst IsTrue (sym before.tells) tells) in omega arith;
    }

-- one operation
pub counted_makes : {T : Type 0} (r : Result T StoreError) (d0 d1 : Disk) → Counted r d0 d1 → Makes 1 d0 d1
counted_makes r d0 d1 counted =
    record {
      tells = counted.tells;
      operations = λ tells. subst (λ (n : ℕ). n ≤ d0.operations + 1) (sym (counted.operations tells)) (one_at_most d0.operations);
      denials = λ tells. subst (λ (n : ℕ). d0.denials ≤ n) (sym (counted.denials tells)) (after_more r d0.denials);
    }

-- none
pub uncounted_makes : (d0 d1 : Disk) → d1.tells ≡ d0.tells → Uncounted d0 d1 → Makes 0 d0 d1
uncounted_makes d0 d1 same counted =
    record {
      tells = same;
      operations = λ tells. let e = counted.operations tells in omega arith;
      denials = λ tells. let e = counted.denials tells in omega arith;
    }

-- Why

-- a denied operation
pub denied : {T : Type 0} (d0 d1 : Disk) → Counted {T = T} (Err Refused) d0 d1 → IsTrue d0.tells → Grew d0.denials d1.denials
denied d0 d1 counted tells =
    let same : one_more d0.denials ≤ one_more d0.denials = omega arith in
    subst (λ (n : ℕ). one_more d0.denials ≤ n) (sym (counted.denials tells)) same

-- an error of a write where a file is open
pub write_denied : {T : Type 0} (n : ℕ) (e : StoreError) (d0 d1 d2 : Disk) → Counted {T = T} (Err e) d1 d2 → e ≢ Absent → (IsTrue d1.tells → (e ≡ NotOpen) ↔ (d1.opened ≡ None))
    → Makes n d0 d1 → SameOpen d0 d1 → IsTrue d0.tells → IsSome d0.opened → Grew d0.denials d2.denials
write_denied n Refused d0 d1 d2 counted other shut before same tells some =
    let tells1 = subst IsTrue (sym before.tells) tells in
    more_above d0.denials d1.denials d2.denials (before.denials tells) (denied d1 d2 counted tells1)
write_denied n Absent d0 d1 d2 counted other shut before same tells some = absurd (other refl)
write_denied n NotOpen d0 d1 d2 counted other shut before same tells some =
    absurd (none_open d0.opened (sym (same tells) ∙ (shut (subst IsTrue (sym before.tells) tells)).0 refl) some) where
      none_open : (o : Option (List ℕ)) → o ≡ None → IsSome o → ⊥
      none_open o none some = cc

-- and then what takes none back
pub denied_then : (n : ℕ) (d0 d1 d2 : Disk) → (IsTrue d0.tells → Grew d0.denials d1.denials) → d1.tells ≡ d0.tells → Makes n d1 d2
    → IsTrue d0.tells → Grew d0.denials d2.denials
denied_then n d0 d1 d2 grew same now tells =
    let first = grew tells in
    let last = now.denials (subst IsTrue (sym same) tells) in omega arith

-- a call behind others
pub caused_behind : {T : Type 0} (m : ℕ) (r : Result T LogError) (d0 d1 d2 : Disk) → Makes m d0 d1 → Caused r d1 d2 → Caused r d0 d2
caused_behind m (Ok t) d0 d1 d2 before now = λ tells. tt
caused_behind m (Err e) d0 d1 d2 before now = λ tells store.
    more_above d0.denials d1.denials d2.denials (before.denials tells) (now (subst IsTrue (sym before.tells) tells) store)

-- and before others
pub caused_before : {T : Type 0} (n : ℕ) (r : Result T LogError) (d0 d1 d2 : Disk) → Caused r d0 d1 → d1.tells ≡ d0.tells → Makes n d1 d2 → Caused r d0 d2
caused_before n (Ok t) d0 d1 d2 before same now = λ tells. tt
caused_before n (Err e) d0 d1 d2 before same now = λ tells store. denied_then n d0 d1 d2 (λ told. before told store) same now tells

-- whatever the error is
pub caused_all : {T : Type 0} (r : Result T LogError) (d0 d1 : Disk) → (IsTrue d0.tells → Grew d0.denials d1.denials) → Caused r d0 d1
caused_all (Ok t) d0 d1 grew = λ tells. tt
caused_all (Err e) d0 d1 grew = λ tells store. grew tells

-- Both

pub costs_join : {T : Type 0} (m n k : ℕ) (r : Result T LogError) (d0 d1 d2 : Disk) → Makes m d0 d1 → Costs n r d1 d2 → m + n ≤ k → Costs k r d0 d2
costs_join m n k r d0 d1 d2 before now within =
    record { made = makes_join m n k d0 d1 d2 before now.made within; cause = caused_behind m r d0 d1 d2 before now.cause }

pub costs_within : {T : Type 0} (m n : ℕ) (r : Result T LogError) (d0 d1 : Disk) → Costs m r d0 d1 → m ≤ n → Costs n r d0 d1
costs_within m n r d0 d1 costs within = record { made = makes_within m n d0 d1 costs.made within; cause = costs.cause }

-- What is left of a rotation

-- the moves of a job are as many as it says
rest_count : (name : ℕ → List ℕ) (base left : ℕ) (waiting : List ℕ) → length (each_to_the_older (archive_names name base left ++ waiting ∷ [])) ≡ left
rest_count name base zero waiting = refl
rest_count name base (suc zero) waiting = refl
rest_count name base (suc (suc n)) waiting = let same = rest_count name base (suc n) waiting in omega arith

pub rest_length : (name : ℕ → List ℕ) (base : ℕ) (job : Option Job) → length (rest_of name base job) ≡ left_of job
rest_length name base None = refl
rest_length name base (Some job) = rest_count name base job.left (string_bytes job.waiting)

-- a step costs three operations where a move is left
step_some : (rest : List (List ℕ × List ℕ)) → 0 < length rest → step_cost rest ≡ 3
step_some [] some = absurd (omega arith)
step_some (move ∷ moves) some = refl

pub step_most : (rest : List (List ℕ × List ℕ)) → step_cost rest ≤ 3 * length rest
step_most [] = omega arith
step_most (move ∷ moves) = omega arith

pub job_cost : (name : ℕ → List ℕ) (base : ℕ) (job : Job) → 0 < job.left → 3 ≤ step_cost (rest_of name base (Some job))
job_cost name base job some =
    let same = rest_length name base (Some job) in
    let three = step_some (rest_of name base (Some job)) (omega arith) in omega arith

pub no_job_cost : (name : ℕ → List ℕ) (base : ℕ) (job : Option Job) → job ≡ None → step_cost (rest_of name base job) ≡ 0
no_job_cost name base job none = ap (λ (j : Option Job). step_cost (rest_of name base j)) none

-- as many archives as the roller has indices
names_count : (name : ℕ → List ℕ) (base count : ℕ) → length (archive_names name base count) ≡ count
names_count name base zero = refl
names_count name base (suc n) = let same = names_count name base n in omega arith

pub archives_count : (name : ℕ → List ℕ) (base count : ℕ) → length (unwrap_or (archives_of name base count) []) ≡ count
archives_count name base zero = refl
archives_count name base (suc n) = names_count name base (suc n)

pub roller_cost : (roller : FixedWindowRoller) → rotation_cost (kept_by roller) ≡ 4 * roller.count + 2
roller_cost roller = let same = archives_count (archive_name roller) roller.base roller.count in omega arith

pub same_count : (r0 r1 : FixedWindowRoller) → SameNames (kept_by r0) (kept_by r1) → r1.count ≡ r0.count
same_count r0 r1 names =
    sym (archives_count (archive_name r1) r1.base r1.count)
    ∙ ap (λ (o : Option (List (List ℕ))). length (unwrap_or o [])) names.archives
    ∙ archives_count (archive_name r0) r0.base r0.count

-- no more moves are left than archives are kept
left_most : (P Q : Job → Type 0) (count : ℕ) (job : Option Job) → ForSome job (λ j. P j × Q j × (0 < j.left) × (j.left ≤ count)) → left_of job ≤ count
left_most P Q count None within = omega arith
left_most P Q count (Some job) within = (within job refl).3

pub rest_most : (roller : FixedWindowRoller) → length (rest_by roller) ≤ roller.count
rest_most roller =
    let same = rest_length (archive_name roller) roller.base roller.job in
    let most = left_most (λ j. IsTrue roller.background) (λ j. IsTrue roller.asked) roller.count roller.job roller.in_steps in omega arith

-- a rotation that is driven goes on
pub drive_makes : (all before now : List (List ℕ × List ℕ)) (d0 d1 d2 : Disk) → length before ≤ length all → length before ≡ length now + 1
    → Makes (3 * (length all - length before)) d0 d1 → Makes (step_cost before) d1 d2 → Makes (3 * (length all - length now)) d0 d2
drive_makes all before now d0 d1 d2 fewer next made step =
    let three = step_some before (omega arith) in
    makes_join _ _ _ d0 d1 d2 made step (omega arith)

pub drive_costs : {T : Type 0} (all before : List (List ℕ × List ℕ)) (r : Result T LogError) (d0 d1 d2 : Disk) → length before ≤ length all
    → Makes (3 * (length all - length before)) d0 d1 → Costs (step_cost before) r d1 d2 → Costs (3 * length all) r d0 d2
drive_costs all before r d0 d1 d2 fewer made step =
    let most = step_most before in
    costs_join _ _ _ r d0 d1 d2 made step (omega arith)

-- before what makes no operation
pub costs_then : {T : Type 0} (m : ℕ) (r : Result T LogError) (d0 d1 d2 : Disk) → Costs m r d0 d1 → Makes 0 d1 d2 → Costs m r d0 d2
costs_then m r d0 d1 d2 before now =
    record { made = makes_join m 0 m d0 d1 d2 before.made now (omega arith); cause = caused_before 0 r d0 d1 d2 before.cause before.made.tells now }
