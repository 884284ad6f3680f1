-- An append that fails before its text is written.
use Rattle.std.proofs.Common.{◌≡◌, ◌≤◌, ◌+◌, inl, inr, arith, ℕ, List, [], Option, None, Bool, false, IsTrue, Result, OnOk, IfErr}
use Rattle.std.specs.Option.{IfSome, IsSome}
use Rattle.std.specs.Prelude.{◌⊎◌}
use Rattle.log4rs_rolling.specs.Change.{written}
use Rattle.log4rs_rolling.specs.Disk.{Disk, Calls}
use Rattle.log4rs_rolling.specs.Faults.{MayAnswer}
use Rattle.log4rs_base.specs.declared.error.LogError.{LogError}
use Rattle.log4rs_base.specs.declared.record.Context.{Context}
use Rattle.log4rs_base.specs.declared.record.Record.{Record}
use Rattle.log4rs_rolling.specs.AppendResults.{AnsweredAppend, GrownAppend, MadeAppend, append_cost}
use Rattle.log4rs_rolling.specs.Appends.{Failing, Reading}
use Rattle.log4rs_rolling.specs.Asking.{Asking, UnlessYes, asks_first, is_told, once_if_yes}
use Rattle.log4rs_rolling.specs.Copies.{CopiesNeedRefusal}
use Rattle.log4rs_rolling.specs.Costs.{Caused, Makes}
use Rattle.log4rs_rolling.specs.Keeping.{Keeping, TellsAfter, rotation_cost}
use Rattle.log4rs_rolling.specs.FileChanges.{OnlyAppends, once_if_closed, openings, way}
use Rattle.log4rs_rolling.specs.AppendParts.{Prepared}
use Rattle.log4rs_rolling.proofs.Appending.{adds_nothing, segmented_nothing}
use Rattle.log4rs_rolling.proofs.Counting.{behind_nothing, counts_failed, none_added, own_fault, texts_fault}
use Rattle.log4rs_rolling.proofs.Costing.{makes_within}
use Rattle.log4rs_rolling.proofs.Parts.{appended_nothing, if_all}
use Rattle.log4rs_rolling.proofs.Reopening.{reopens_early}
use Rattle.log4rs_rolling.proofs.Shown.{no_record}
use Rattle.log4rs_rolling.proofs.Whole.{whole_nothing}

pub early_answered : (reading : Option Reading) (r : Record) (c : Context) (asking : Asking) (answer : Option Bool) (k0 k1 : Keeping) (append : Bool) (path : List ℕ) (result : Result Unit LogError) (d0 d1 : Disk) (first : Bool) (A : Type 0)
    → ((X : Type 0) → OnOk result X) → A → IfSome (asks_first asking.kind) (λ b. first ≡ b) → (first ≡ false → answer ≡ None) → Prepared append asking c answer k0 k1 A path d0 d1
    → UnlessYes answer (Calls d0 d1 (OnlyAppends path (way append)))
    → (TellsAfter k0 path answer → Calls d0 d1 (λ added. openings added ≤ once_if_closed d0.opened + once_if_yes answer)) → AnsweredAppend reading r c asking answer k0 k1 append path result d0 d1
early_answered reading r c asking answer k0 k1 append path result d0 d1 first A failed agrees is none prepared quiet opens =
    record {
      kept = appended_nothing asking c answer append A path k0 k1 d0 d1 agrees prepared;
      whole = whole_nothing reading r c asking k0 (way append) path result answer d0 d1 failed;
      quiet = quiet;
      opens = λ tells. reopens_early asking.kind first answer d0 d1 is none (opens tells);
      behind = behind_nothing reading r c asking k0 first path answer d0 d1 is none;
      unrefused = counts_failed answer result (d1.refusals ≡ d0.refusals) failed;
    }

pub early_made : (reading : Option Reading) (fails : Failing) (r : Record) (c : Context) (asking : Asking) (k : Keeping) (path : List ℕ) (result : Result Unit LogError) (d0 d1 : Disk)
    → ((X : Type 0) → OnOk result X) → Calls d0 d1 (λ added. written path added ≡ []) → CopiesNeedRefusal d0 d1
    → (IsTrue (is_told asking.kind) → IsSome reading → IfErr result (MayAnswer d0.refusals d1.refusals))
    → (IsTrue (is_told asking.kind) → IfErr result (MayAnswer d0.refusals d1.refusals) ⊎ IfErr result (fails r c))
    → Makes (rotation_cost k + 4) d0 d1 → (IsTrue (is_told asking.kind) → IsSome reading → Caused result d0 d1) → MadeAppend reading fails r c asking k path result d0 d1
early_made reading fails r c asking k path result d0 d1 failed silent copies fault why made cause =
    record {
      adds = adds_nothing reading r c path result d0 d1 failed silent;
      memory = λ is. none_added reading r c path d0 d1 silent;
      copies = copies;
      unrefused = λ only. failed (d1.refusals ≡ d0.refusals);
      fault = fault;
      faults = λ told. elim (why told) [
        | inl own ↦ own_fault result fails r c path d0 d1 own
        | inr texts ↦ texts_fault result fails r c path d0 d1 texts silent
      ];
      cost = if_all reading (λ read. Makes (append_cost k (read r c)) d0 d1) (λ read. makes_within (rotation_cost k + 4) (append_cost k (read r c)) d0 d1 made (omega arith));
      cause = cause;
    }

pub early_grown : (reading : Option Reading) (r : Record) (c : Context) (asking : Asking) (k0 k1 : Keeping) (path : List ℕ) (result : Result Unit LogError) (d0 d1 : Disk)
    → ((X : Type 0) → OnOk result X) → GrownAppend reading r c asking k0 k1 path result d0 d1
early_grown reading r c asking k0 k1 path result d0 d1 failed =
    record {
      segments = segmented_nothing reading r c asking k0 path result d0 d1 failed;
      shown = no_record reading r c asking k0 k1 path result d0 d1 failed;
    }
