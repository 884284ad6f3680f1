-- What the parts of an append to a rolled file cost.
use Rattle.std.proofs.Common.{◌≡◌, ◌≤◌, ◌<◌, ◌+◌, ◌*◌, ◌∙◌, ℕ, List, [], ◌∷◌, length, Option, Some, None, Bool, true, false, IsTrue, IsSome, refl, sym, ap, subst, arith, if◌then◌else◌, unwrap_or, Result, Ok, Err, IfErr}
use Rattle.std.specs.Option.{IfSome}
use Rattle.log4rs_base.specs.declared.error.LogError.{LogError}
use Rattle.log4rs_base.specs.declared.record.Context.{Context}
use Rattle.log4rs_base.specs.declared.record.Record.{Record}
use Rattle.log4rs_rolling.specs.Appends.{CostsText, Reading}
use Rattle.log4rs_rolling.specs.Costs.{Caused, Costs, CostsToWrite, Makes}
use Rattle.log4rs_rolling.specs.Disk.{Disk, Does, files_of}
use Rattle.log4rs_rolling.specs.Keeping.{Keeping, SameNames, rotation_cost}
use Rattle.log4rs_rolling.specs.LogFile.{Agrees, IsOpenAt, is_open, log_path, opened_at}
use Rattle.log4rs_rolling.specs.AppendResults.{append_cost}
use Rattle.log4rs_rolling.specs.declared.log_file.LogFile.{LogFile}
use Rattle.log4rs_rolling.proofs.Costing.{makes_join, makes_within}
use Rattle.log4rs_rolling.proofs.Parts.{if_map}
use Rattle.log4rs_rolling.proofs.Calls.{files_after}
use Rattle.log4rs_rolling.proofs.Replays.{put_here}
use Rattle.log4rs_rolling.specs.Change.{Files, after, bytes_at, opened, put}
use Rattle.log4rs_rolling.specs.declared.store.Open.{Open}
use Rattle.log4rs_rolling.specs.declared.store.Open.TheVariants.{Append, Truncate}

-- what comes before the record, by whether the policy is called then
pub prepared_makes : (first : Bool) (k : Keeping) (d0 d1 : Disk) → Makes 2 d0 d1 → Makes (if first then rotation_cost k + 4 else 2) d0 d1
prepared_makes true k d0 d1 two = makes_within 2 (rotation_cost k + 4) d0 d1 two (omega arith)
prepared_makes false k d0 d1 two = two

pub prepared_within : (first : Bool) (k : Keeping) (d0 d1 : Disk) → Makes (if first then rotation_cost k + 4 else 2) d0 d1 → Makes (rotation_cost k + 4) d0 d1
prepared_within true k d0 d1 made = made
prepared_within false k d0 d1 made = makes_within 2 (rotation_cost k + 4) d0 d1 made (omega arith)

-- and what comes then
pub wrote_makes : (first : Bool) (k : Keeping) (n : ℕ) (d0 d1 : Disk) → Makes n d0 d1 → Makes (n + (if first then 0 else rotation_cost k)) d0 d1
wrote_makes first k n d0 d1 made = makes_within n (n + (if first then 0 else rotation_cost k)) d0 d1 made (omega arith)

pub same_cost : (k0 k1 : Keeping) → SameNames k0 k1 → rotation_cost k1 ≡ rotation_cost k0
same_cost k0 k1 names = ap (λ (o : Option (List (List ℕ))). 4 * length (unwrap_or o []) + 2) names.archives

both_makes : (first : Bool) (rotation n : ℕ) (d0 d1 d2 : Disk) → Makes (if first then rotation + 4 else 2) d0 d1 → Makes (n + (if first then 0 else rotation)) d1 d2 → Makes (rotation + 4 + n) d0 d2
both_makes true rotation n d0 d1 d2 one two = makes_join (rotation + 4) (n + 0) (rotation + 4 + n) d0 d1 d2 one two (omega arith)
both_makes false rotation n d0 d1 d2 one two = makes_join 2 (n + rotation) (rotation + 4 + n) d0 d1 d2 one two (omega arith)

-- the whole append of a record whose text is visible
pub append_makes : {R : Type 0} (first : Bool) (k0 k1 : Keeping) (reading : Option R) (shown : R → List ℕ) (text : List ℕ) (d0 d1 d2 : Disk) → SameNames k0 k1
    → IfSome reading (λ read. text ≡ shown read)
    → Makes (if first then rotation_cost k0 + 4 else 2) d0 d1 → Makes (length text + (if first then 0 else rotation_cost k1)) d1 d2
    → IfSome reading (λ read. Makes (append_cost k0 (shown read)) d0 d2)
append_makes first k0 k1 reading shown text d0 d1 d2 names is one two =
    if_map reading (λ read. text ≡ shown read) (λ read. Makes (append_cost k0 (shown read)) d0 d2) is
    (λ read same. subst (λ (t : List ℕ). Makes (append_cost k0 t) d0 d2) same
    (both_makes first (rotation_cost k0) (length text) d0 d1 d2 one (subst (λ (n : ℕ). Makes (length text + (if first then 0 else n)) d1 d2) (same_cost k0 k1 names) two)))

-- the open file of a log file that agrees
some_open : (b : Bool) (path : List ℕ) (at : Option (List ℕ)) → IsTrue b → at ≡ (if b then Some path else None) → IsSome at
some_open true path at on is = subst IsSome (sym is) refl
some_open false path at on is = cc

pub open_is_some : (log : LogFile) (disk : Disk) → Agrees log disk → IsTrue (is_open log) → IsTrue disk.tells → IsSome disk.opened
open_is_some log disk agrees on tells = some_open (is_open log) (log_path log) disk.opened on (agrees.opened tells)

-- one append of a record whose text is visible, to a file that is opened for it or is open
pub costs_text : (reading : Option Reading) (r : Record) (c : Context) (more : ℕ) (result : Result Unit LogError) (text : List ℕ) (d0 d1 : Disk) → IfSome reading (λ read. text ≡ read r c)
    → Costs (more + length text) result d0 d1 → CostsText reading r c more result d0 d1
costs_text reading r c more result text d0 d1 is costs =
    if_map reading (λ read. text ≡ read r c) (λ read. Costs (more + length (read r c)) result d0 d1) is
    (λ read same. subst (λ (t : List ℕ). Costs (more + length t) result d0 d1) same costs)

-- A file that was just opened

opened_there : (files : Files) (path : List ℕ) (how : Open) → IsSome (after files (opened path how) path)
opened_there files path Append = subst IsSome (sym (put_here files path (Some (bytes_at files path)))) refl
opened_there files path Truncate = subst IsSome (sym (put_here files path (Some []))) refl

pub opened_agrees : (log : LogFile) (path : List ℕ) (n : ℕ) (how : Open) (d0 d1 : Disk) → path ≡ log_path log → Does d0 d1 (opened path how ∷ []) d0.refusals (Some path) → IsOpenAt path n d0 d1 → Agrees (opened_at log n) d1
opened_agrees log path n how d0 d1 same does at =
    subst (λ (p : List ℕ). Does d0 d1 (opened p how ∷ []) d0.refusals (Some p) → IsOpenAt p n d0 d1 → Agrees (opened_at log n) d1) (sym same)
    (λ does at. record {
      opened = λ tells. (at (subst IsTrue does.tells tells)).0;
      len = λ tells is. (at (subst IsTrue does.tells tells)).1;
      present = λ tells is.
          subst (λ (f : Files). IsSome (f (log_path log))) (sym (files_after d0 d1 (opened (log_path log) how ∷ []) (does.told (subst IsTrue does.tells tells))))
          (opened_there (files_of d0) (log_path log) how);
    })
    does at
