-- How often an append opens its file.
use Rattle.std.proofs.Common.{◌≡◌, ◌≤◌, ◌+◌, ◌⊎◌, ℕ, List, [], ◌∷◌, ◌++◌, Option, Some, None, Bool, true, false, IsTrue, MatchOption, IfSome, Result, Ok, Err, inl, inr, refl, ap, sym, subst, ◌∙◌, arith, if◌then◌else◌}
use Rattle.std.specs.Option.{IsSome}
use Rattle.log4rs_rolling.specs.Change.{Change, Files, copied, opened, wrote, renamed, removed, replay}
use Rattle.log4rs_rolling.specs.Disk.{Disk, Calls, files_of}
use Rattle.log4rs_rolling.specs.FileChanges.{OnlyWrites, once_if_closed, openings}
use Rattle.log4rs_base.specs.declared.error.LogError.{LogError}
use Rattle.log4rs_rolling.proofs.Calls.{calls_join, calls_map}
use Rattle.log4rs_rolling.specs.Asking.{Kind, Untold, BySize, First, asks_first, once_if_yes, opened_again}
use Rattle.log4rs_rolling.specs.Keeping.{Keeping, RolledAs, Removed, TellsAfter}
use Rattle.log4rs_rolling.specs.LogFile.{Agrees, is_open, log_path}
use Rattle.log4rs_rolling.specs.Moves.{MovedAll, MovedPartly}
use Rattle.log4rs_rolling.specs.PolicyResults.{Processed}
use Rattle.log4rs_rolling.specs.declared.log_file.LogFile.{LogFile}
use Rattle.log4rs_rolling.proofs.Limits.{rolled_partly}

openings-append : (xs ys : List Change) → openings (xs ++ ys) ≡ openings xs + openings ys
openings-append [] ys = omega arith
openings-append (opened at how ∷ xs) ys = let rest = openings-append xs ys in omega arith
openings-append (wrote at bytes ∷ xs) ys = openings-append xs ys
openings-append (renamed from to ∷ xs) ys = openings-append xs ys
openings-append (copied from to ∷ xs) ys = openings-append xs ys
openings-append (removed at ∷ xs) ys = openings-append xs ys

writes_open_none : (path : List ℕ) (added : List Change) → OnlyWrites path added → openings added ≡ 0
writes_open_none path [] only = refl
writes_open_none path (wrote at bytes ∷ added) only = writes_open_none path added only.1
writes_open_none path (opened at how ∷ added) only = absurd only
writes_open_none path (renamed from to ∷ added) only = absurd only
writes_open_none path (copied from to ∷ added) only = absurd only
writes_open_none path (removed at ∷ added) only = absurd only

moved_none : (there : Option (List ℕ)) (from to : List ℕ) (changes : List Change)
    → MatchOption there (changes ≡ []) (λ bytes. (changes ≡ renamed from to ∷ []) ⊎ (changes ≡ copied from to ∷ removed from ∷ [])) → openings changes ≡ 0
moved_none None from to changes is = ap openings is
moved_none (Some bytes) from to changes (inl is) = ap openings is
moved_none (Some bytes) from to changes (inr is) = ap openings is

moved_all_none : (files : Files) (moves : List (List ℕ × List ℕ)) (changes : List Change) → MovedAll files moves changes → openings changes ≡ 0
moved_all_none files [] changes is = ap openings is
moved_all_none files (move ∷ moves) changes is =
    let first = moved_none (files move.0) move.0 move.1 is.0 is.3 in
    let others = moved_all_none (replay files is.0) moves is.1 is.4 in
    let both : openings changes ≡ openings is.0 + openings is.1 = ap openings is.2 ∙ openings-append is.0 is.1 in
    omega arith

moved_partly_none : (files : Files) (moves : List (List ℕ × List ℕ)) (changes : List Change) → MovedPartly files moves changes → openings changes ≡ 0
moved_partly_none files moves changes is =
    let all = moved_all_none files moves (changes ++ is.0) is.1 in
    let both = openings-append changes is.0 in
    omega arith

told_none : (moves : Option (List (List ℕ × List ℕ))) (d0 d1 : Disk) → IsSome moves → IfSome moves (λ moves. Calls d0 d1 (MovedPartly (files_of d0) moves)) → Calls d0 d1 (λ added. openings added ≡ 0)
told_none None d0 d1 some is = absurd (cc some)
told_none (Some moves) d0 d1 some is = calls_map d0 d1 _ _ is (λ added tells told partly. moved_partly_none (files_of d0) moves added partly)

removed_none : (path : List ℕ) (r : Result (Unit {0}) LogError) (added : List Change) → Removed path r added → openings added ≡ 0
removed_none path (Ok u) added is = ap openings is.0
removed_none path (Err fault) added is = ap openings is.1

rolled_none : (k0 k1 : Keeping) (path : List ℕ) (r : Result (Unit {0}) LogError) (d0 d1 : Disk) → RolledAs k0 k1 path r d0 d1 → IsSome (k0.moves path) ⊎ IsTrue k0.removes → Calls d0 d1 (λ added. openings added ≡ 0)
rolled_none k0 k1 path r d0 d1 rolled (inl some) = told_none (k0.moves path) d0 d1 some (rolled_partly k0 k1 path r d0 d1 rolled)
rolled_none k0 k1 path r d0 d1 rolled (inr removes) = calls_map d0 d1 _ _ (rolled.removed removes) (λ added tells told is. removed_none path r added is)

pub processed_none : (k0 k1 : Keeping) (answer : Option Bool) (path other : List ℕ) (r : Result (Unit {0}) LogError) (d0 d1 : Disk) → other ≡ path → Processed k0 k1 answer other r d0 d1 → TellsAfter k0 path answer
    → Calls d0 d1 (λ added. openings added ≡ 0)
processed_none k0 k1 answer path other r d0 d1 same done tells = by answer (subst (λ (p : List ℕ). Processed k0 k1 answer p r d0 d1) same done) tells where
  by : (a : Option Bool) → Processed k0 k1 a path r d0 d1 → TellsAfter k0 path a → Calls d0 d1 (λ added. openings added ≡ 0)
  by (Some true) is told = rolled_none k0 k1 path r d0 d1 is (told refl)
  by (Some false) is told = calls_map d0 d1 _ _ is.1 (λ added tells told none. ap openings none)
  by None is told = calls_map d0 d1 _ _ is.1 (λ added tells told none. ap openings none)

-- counts of two parts
joined : (n m k : ℕ) (d0 d1 d2 : Disk) → Calls d0 d1 (λ added. openings added ≤ n) → Calls d1 d2 (λ added. openings added ≤ m) → n + m ≤ k → Calls d0 d2 (λ added. openings added ≤ k)
joined n m k d0 d1 d2 one other fits = calls_join d0 d1 d2 _ _ (λ added. openings added ≤ k) one other (λ xs ys tells told a b. let both = openings-append xs ys in omega arith)

then_none : (n : ℕ) (d0 d1 d2 : Disk) → Calls d0 d1 (λ added. openings added ≤ n) → Calls d1 d2 (λ added. openings added ≡ 0) → Calls d0 d2 (λ added. openings added ≤ n)
then_none n d0 d1 d2 one other = joined n 0 n d0 d1 d2 one (calls_map d1 d2 _ _ other (λ added tells told none. omega arith)) (omega arith)

pub writes_none : (path : List ℕ) (d0 d1 : Disk) → Calls d0 d1 (OnlyWrites path) → Calls d0 d1 (λ added. openings added ≡ 0)
writes_none path d0 d1 calls = calls_map d0 d1 _ _ calls (λ added tells told only. writes_open_none path added only)

pub both_none : (d0 d1 d2 : Disk) → Calls d0 d1 (λ added. openings added ≡ 0) → Calls d1 d2 (λ added. openings added ≡ 0) → Calls d0 d2 (λ added. openings added ≡ 0)
both_none d0 d1 d2 one other = calls_join d0 d1 d2 _ _ (λ added. openings added ≡ 0) one other (λ xs ys tells told a b. let both = openings-append xs ys in omega arith)

once_by : (b : Bool) (path : List ℕ) (at : Option (List ℕ)) → at ≡ (if b then Some path else None) → (if b then 0 else 1) ≡ once_if_closed at
once_by true path at is = rw is refl
once_by false path at is = rw is refl

-- an opening of a file that knows whether it is open
pub opens_once : (log : LogFile) (n : ℕ) (d0 d1 : Disk) → Agrees log d0 → Calls d0 d1 (λ added. openings added ≤ (if is_open log then 0 else 1)) → Calls d0 d1 (λ added. openings added ≤ once_if_closed d0.opened + n)
opens_once log n d0 d1 agrees calls = calls_map d0 d1 _ _ calls (λ added tells told at_most. let once = once_by (is_open log) (log_path log) d0.opened (agrees.opened tells) in omega arith)

-- and then what a policy did
pub opens_then : (log : LogFile) (k0 k1 : Keeping) (answer : Option Bool) (path other : List ℕ) (r : Result (Unit {0}) LogError) (d0 d1 d2 : Disk) → Agrees log d0
    → Calls d0 d1 (λ added. openings added ≤ (if is_open log then 0 else 1)) → other ≡ path → Processed k0 k1 answer other r d1 d2 → TellsAfter k0 path answer
    → (n : ℕ) → Calls d0 d2 (λ added. openings added ≤ once_if_closed d0.opened + n)
opens_then log k0 k1 answer path other r d0 d1 d2 agrees calls same done tells n =
    then_none (once_if_closed d0.opened + n) d0 d1 d2 (opens_once log n d0 d1 agrees calls) (processed_none k0 k1 answer path other r d1 d2 same done tells)

still_open : (b : Bool) (path other : List ℕ) (at : Option (List ℕ)) → at ≡ Some path → at ≡ (if b then Some other else None) → b ≡ true
still_open true path other at one now = refl
still_open false path other at one now = absurd (cc (one, now))

at_most_one : (b : Bool) (n : ℕ) → n ≤ (if b then 0 else 1) → n ≤ 1
at_most_one true n is = omega (arith, is)
at_most_one false n is = is

not_again : (b : Bool) (n : ℕ) → b ≡ true → n ≤ (if b then 0 else 1) → n ≤ 0
not_again true n is at_most = at_most
not_again false n is at_most = absurd (cc is)

-- the second opening, behind what the policy did to an open file
again : (log now : LogFile) (k0 k1 : Keeping) (answer : Option Bool) (path : List ℕ) (r : Result (Unit {0}) LogError) (d1 d2 d3 : Disk) → Agrees log d1 → IsTrue (is_open log) → Processed k0 k1 answer path r d1 d2
    → Agrees now d2 → Calls d2 d3 (λ added. openings added ≤ (if is_open now then 0 else 1)) → Calls d2 d3 (λ added. openings added ≤ once_if_yes answer)
again log now k0 k1 (Some true) path r d1 d2 d3 agrees on done later calls = calls_map d2 d3 _ _ calls (λ added tells told is. at_most_one (is_open now) (openings added) is)
again log now k0 k1 (Some false) path r d1 d2 d3 agrees on done later calls =
    calls_map d2 d3 _ _ calls (λ added tells told is.
    let told1 : IsTrue d1.tells = subst IsTrue done.1.tells tells in
    not_again (is_open now) (openings added)
    (still_open (is_open now) (log_path log) (log_path now) d2.opened (done.3 told1 ∙ agrees.opened told1 ∙ ap (λ (b : Bool). if b then Some (log_path log) else None) on) (later.opened tells)) is)
again log now k0 k1 None path r d1 d2 d3 agrees on done later calls =
    calls_map d2 d3 _ _ calls (λ added tells told is.
    let told1 : IsTrue d1.tells = subst IsTrue done.1.tells tells in
    not_again (is_open now) (openings added)
    (still_open (is_open now) (log_path log) (log_path now) d2.opened (done.3 told1 ∙ agrees.opened told1 ∙ ap (λ (b : Bool). if b then Some (log_path log) else None) on) (later.opened tells)) is)

pub opens_again : (log0 log1 log2 : LogFile) (k0 k1 : Keeping) (answer : Option Bool) (path other : List ℕ) (r : Result (Unit {0}) LogError) (d0 d1 d2 d3 : Disk) → Agrees log0 d0
    → Calls d0 d1 (λ added. openings added ≤ (if is_open log0 then 0 else 1)) → other ≡ path → Agrees log1 d1 → IsTrue (is_open log1) → Processed k0 k1 answer other r d1 d2 → Agrees log2 d2
    → Calls d2 d3 (λ added. openings added ≤ (if is_open log2 then 0 else 1)) → TellsAfter k0 path answer → Calls d0 d3 (λ added. openings added ≤ once_if_closed d0.opened + once_if_yes answer)
opens_again log0 log1 log2 k0 k1 answer path other r d0 d1 d2 d3 agrees calls same agrees1 on done agrees2 more tells =
    joined (once_if_closed d0.opened + 0) (once_if_yes answer) (once_if_closed d0.opened + once_if_yes answer) d0 d2 d3
    (opens_then log0 k0 k1 answer path other r d0 d1 d2 agrees calls same done tells 0) (again log1 log2 k0 k1 answer other r d1 d2 d3 agrees1 on done agrees2 more) (omega arith)

-- An append of two parts

-- behind the yes of a trigger that is asked first
yes_again : (kind : Kind) (first : Bool) (answer : Option Bool) → IfSome (asks_first kind) (λ b. first ≡ b) → first ≡ true → once_if_yes answer ≤ opened_again kind answer
yes_again Untold first answer is early = omega arith
yes_again (BySize limit) first answer is early = absurd (cc (is, early))
yes_again First first answer is early = omega arith

-- where the trigger is asked first
pub reopens_first : (kind : Kind) (first : Bool) (answer : Option Bool) (d0 d1 d2 : Disk) → IfSome (asks_first kind) (λ b. first ≡ b) → first ≡ true
    → Calls d0 d1 (λ added. openings added ≤ once_if_closed d0.opened + once_if_yes answer) → Calls d1 d2 (λ added. openings added ≡ 0)
    → Calls d0 d2 (λ added. openings added ≤ once_if_closed d0.opened + opened_again kind answer)
reopens_first kind first answer d0 d1 d2 is early one other =
    let more = yes_again kind first answer is early in
    joined (once_if_closed d0.opened + once_if_yes answer) 0 (once_if_closed d0.opened + opened_again kind answer) d0 d1 d2 one (calls_map d1 d2 _ _ other (λ added tells told none. omega arith)) (omega arith)

-- where it is asked afterwards
pub reopens_last : (kind : Kind) (answer before : Option Bool) (d0 d1 d2 : Disk) → before ≡ None
    → Calls d0 d1 (λ added. openings added ≤ once_if_closed d0.opened + once_if_yes before) → Calls d1 d2 (λ added. openings added ≡ 0)
    → Calls d0 d2 (λ added. openings added ≤ once_if_closed d0.opened + opened_again kind answer)
reopens_last kind answer before d0 d1 d2 none one other =
    let zero : once_if_yes before ≡ 0 = ap once_if_yes none in
    joined (once_if_closed d0.opened + once_if_yes before) 0 (once_if_closed d0.opened + opened_again kind answer) d0 d1 d2 one (calls_map d1 d2 _ _ other (λ added tells told is. omega arith)) (omega arith)

-- an append that ended behind its first part
pub reopens_early : (kind : Kind) (first : Bool) (answer : Option Bool) (d0 d1 : Disk) → IfSome (asks_first kind) (λ b. first ≡ b) → (first ≡ false → answer ≡ None)
    → Calls d0 d1 (λ added. openings added ≤ once_if_closed d0.opened + once_if_yes answer) → Calls d0 d1 (λ added. openings added ≤ once_if_closed d0.opened + opened_again kind answer)
reopens_early kind true answer d0 d1 is none calls = let more = yes_again kind true answer is refl in calls_map d0 d1 _ _ calls (λ added tells told at_most. omega arith)
reopens_early kind false answer d0 d1 is none calls =
    let zero : once_if_yes answer ≡ 0 = ap once_if_yes (none refl) in calls_map d0 d1 _ _ calls (λ added tells told at_most. omega arith)

pub no_yes : (answer : Option Bool) → answer ≡ None → answer ≡ Some true → ⊥
no_yes answer none said = cc

-- the same keeping tells the same
pub tells_still : (k0 k1 : Keeping) (path other : List ℕ) (answer : Option Bool) → k1 ≡ k0 → other ≡ path → TellsAfter k0 path answer → TellsAfter k1 other answer
tells_still k0 k1 path other answer same here tells =
    subst (λ (k : Keeping). TellsAfter k other answer) (sym same) (subst (λ (p : List ℕ). TellsAfter k0 p answer) (sym here) tells)
