use Rattle.std.proofs.Common.{rules, arith, IsTrue, Bool, sym, ◌+◌, ◌≤◌, ◌∙◌, ◌≡◌, string_bytes, ℕ, List, None, true, inl, inr, refl, [], subst, Ok, if◌then◌else◌}
use Rattle.log4rs_rolling.specs.declared.store.Open.TheVariants.{Append, Truncate}
use Rattle.log4rs_rolling.proofs.Whole.{prepared_moves}
use Rattle.log4rs_rolling.specs.Change.{written}
use Rattle.log4rs_rolling.specs.Disk.{Calls}
use Rattle.log4rs_rolling.specs.declared.store.Open.{Open}
use Rattle.log4rs_rolling.specs.FileChanges.{OnlyOpens}
use Rattle.log4rs_rolling.specs.LogFile.{Agrees}
use Rattle.log4rs_rolling.proofs.Quiet.{opened_quiet, processed_behind, then_opened}
use Rattle.log4rs_rolling.proofs.Parts.{opened_clean, prepared_open, prepared_asked, prepared_again, not_both, opened_silent, silent_join, silent_at, then_later}
use Rattle.log4rs_rolling.proofs.Limits.{limited_asked, limited_behind, limited_quiet, limited_then}
use Rattle.log4rs_rolling.proofs.Copying.{copies_join}
use Rattle.log4rs_rolling.proofs.Counting.{counts_failed, counts_again, processed_counts}
use Rattle.log4rs_rolling.specs.Asking.{once_if_yes}
use Rattle.log4rs_rolling.proofs.Reopening.{opens_again, opens_once, opens_then}
use Rattle.log4rs_rolling.specs.Costs.{Makes}
use Rattle.log4rs_rolling.specs.Keeping.{rotation_cost}
use Rattle.log4rs_rolling.proofs.Costing.{caused_behind, makes_join}
use Rattle.log4rs_append.proofs.Spending.{prepared_makes}
use Rattle.log4rs_append.proofs.rolling_file.parts.prepare.Goals as goal

pub returns-in_err-open_file-clause-prepared : goal.returns-in_err-open_file-clause-prepared
returns-in_err-open_file-clause-prepared g c =
    let disk = g.S.Store.disk in
    let p = c.args.policy.now in (
      None,
      inr (refl, refl),
      λ e. (refl, refl),
      prepared_open c.args.append (g.P.Policy.asking p) c.args.context.now (g.P.Keep.keeping p) (Agrees c.args.log.now (disk c.args.store.now)) (string_bytes c.args.log.now.path)
          (disk c.args.store.now) (disk c.open_file.new.store) c.open_file.ensures.opened,
      λ f agrees. search rules,
      opened_quiet _ _ _ _ c.open_file.ensures.opened,
      search rules,
      λ agrees tells. opens_once c.args.log.now 0 (disk c.args.store.now) (disk c.open_file.new.store) agrees c.open_file.ensures.at_most,
    )

pub returns-then-not-first-clause-prepared : goal.returns-then-not-first-clause-prepared
returns-then-not-first-clause-prepared g c =
    let disk = g.S.Store.disk in
    let p = c.args.policy.now in (
      None,
      inr (refl, refl),
      λ e. (refl, refl),
      prepared_open c.args.append (g.P.Policy.asking p) c.args.context.now (g.P.Keep.keeping p) (Agrees c.args.log.now (disk c.args.store.now)) (string_bytes c.args.log.now.path)
          (disk c.args.store.now) (disk c.open_file.new.store) c.open_file.ensures.opened,
      λ f. not_both c.args.first f (search rules),
      opened_quiet _ _ _ _ c.open_file.ensures.opened,
      c.in_ok-open_file.ensures.told.unrefused,
      λ agrees tells. opens_once c.args.log.now 0 (disk c.args.store.now) (disk c.open_file.new.store) agrees c.open_file.ensures.at_most,
    )

pub returns-in_err-process-clause-prepared : goal.returns-in_err-process-clause-prepared
returns-in_err-process-clause-prepared g c =
    let disk = g.S.Store.disk in
    let p = c.args.policy.now in
    let asked = c.process.ensures.asked in
    let first : c.args.first ≡ true = search rules in (
      asked.0,
      inl asked.2,
      λ e. not_both c.args.first first e,
      prepared_asked c.args.append (g.P.Policy.asking p) c.args.context.now asked.0 c.process.result (g.P.Keep.keeping p) (g.P.Keep.keeping c.process.new.self)
          (Agrees c.args.log.now (disk c.args.store.now)) (string_bytes c.args.log.now.path) (string_bytes c.open_file.new.log.path) c.open_file.new.log.len
          (disk c.args.store.now) (disk c.open_file.new.store) (disk c.process.new.store)
          (c.open_file.ensures.path) c.open_file.ensures.opened
          (λ agrees tells. (c.open_file.ensures.agrees agrees).len tells c.in_ok-open_file.ensures.ok) asked.1 asked.3,
      λ f agrees. search rules,
      processed_behind _ _ _ asked.0 _ _ _ _ _ (opened_quiet _ _ _ _ c.open_file.ensures.opened) asked.3,
      counts_failed asked.0 c.from_residual-in_err-process.result ((disk c.process.new.store).refusals ≡ (disk c.args.store.now).refusals) (λ X. search rules),
      λ agrees tells. opens_then c.args.log.now (g.P.Keep.keeping p) (g.P.Keep.keeping c.process.new.self) asked.0 (string_bytes c.args.log.now.path) (string_bytes c.open_file.new.log.path) c.process.result
          (disk c.args.store.now) (disk c.open_file.new.store) (disk c.process.new.store) agrees c.open_file.ensures.at_most c.open_file.ensures.path asked.3 tells (once_if_yes asked.0),
    )

pub returns-clause-prepared : goal.returns-clause-prepared
returns-clause-prepared g c =
    let disk = g.S.Store.disk in
    let p = c.args.policy.now in
    let asked = c.in_ok-process.ensures.asked in
    let path = string_bytes c.args.log.now.path in
    let how : Open = if c.args.append then Append else Truncate in
    let first : c.args.first ≡ true = search rules in (
      asked.0,
      inl asked.2,
      λ e. not_both c.args.first first e,
      prepared_again c.args.append (g.P.Policy.asking p) c.args.context.now asked.0 (g.P.Keep.keeping p) (g.P.Keep.keeping c.process.new.self)
          (Agrees c.args.log.now (disk c.args.store.now)) (string_bytes c.args.log.now.path) (string_bytes c.process.new.log.path)
          (disk c.args.store.now) (disk c.process.new.store) (disk c.open_file-2.new.store)
          (c.process.ensures.log.path ∙ c.open_file.ensures.path)
          (prepared_asked c.args.append (g.P.Policy.asking p) c.args.context.now asked.0 (Ok tt) (g.P.Keep.keeping p) (g.P.Keep.keeping c.process.new.self)
          (Agrees c.args.log.now (disk c.args.store.now)) (string_bytes c.args.log.now.path) (string_bytes c.open_file.new.log.path) c.open_file.new.log.len
          (disk c.args.store.now) (disk c.open_file.new.store) (disk c.process.new.store)
          (c.open_file.ensures.path) c.open_file.ensures.opened
          (λ agrees tells. (c.open_file.ensures.agrees agrees).len tells c.in_ok-open_file.ensures.ok) asked.1 asked.3)
          c.open_file-2.ensures.opened,
      λ f. prepared_moves (g.P.Policy.asking p) c.args.context.now asked.0 tt (g.P.Keep.keeping p) (g.P.Keep.keeping c.process.new.self) (Agrees c.args.log.now (disk c.args.store.now)) (string_bytes c.args.log.now.path)
          (string_bytes c.open_file.new.log.path) (string_bytes c.process.new.log.path) c.open_file.new.log.len (if c.args.append then Append else Truncate) c.open_file-2.result
          (disk c.args.store.now) (disk c.open_file.new.store) (disk c.process.new.store) (disk c.open_file-2.new.store)
          c.open_file.ensures.path (c.process.ensures.log.path ∙ c.open_file.ensures.path) c.open_file.ensures.opened
          (λ agrees tells. (c.open_file.ensures.agrees agrees).len tells c.in_ok-open_file.ensures.ok) asked.1 asked.3 c.process.ensures.limits.store c.open_file-2.ensures.opened,
      then_opened asked.0 path how (disk c.args.store.now) (disk c.process.new.store) (disk c.open_file-2.new.store)
          (processed_behind _ _ _ asked.0 _ _ _ _ _ (opened_quiet path how _ _ c.open_file.ensures.opened) asked.3)
          (subst (λ (p : List ℕ). Calls (disk c.process.new.store) (disk c.open_file-2.new.store) (OnlyOpens p how)) (c.process.ensures.log.path ∙ c.open_file.ensures.path) c.open_file-2.ensures.opened),
      counts_again asked.0 c.open_file-2.result _ _ _ _ c.in_ok-open_file.ensures.told.unrefused (processed_counts _ _ asked.0 _ _ _ _ asked.3) c.open_file-2.ensures.told.unrefused,
      λ agrees tells. opens_again c.args.log.now c.open_file.new.log c.process.new.log (g.P.Keep.keeping p) (g.P.Keep.keeping c.process.new.self) asked.0 path (string_bytes c.open_file.new.log.path) (Ok tt)
          (disk c.args.store.now) (disk c.open_file.new.store) (disk c.process.new.store) (disk c.open_file-2.new.store) agrees c.open_file.ensures.at_most c.open_file.ensures.path
          (c.open_file.ensures.agrees agrees) c.in_ok-open_file.ensures.ok asked.3 (c.process.ensures.log.agrees (c.open_file.ensures.agrees agrees)) c.open_file-2.ensures.at_most tells,
    )

pub returns-in_err-open_file-clause-silent : goal.returns-in_err-open_file-clause-silent
returns-in_err-open_file-clause-silent g c = λ built. opened_silent _ _ _ _ c.open_file.ensures.opened

pub returns-then-not-first-clause-silent : goal.returns-then-not-first-clause-silent
returns-then-not-first-clause-silent g c = λ built. opened_silent _ _ _ _ c.open_file.ensures.opened

pub returns-in_err-process-clause-silent : goal.returns-in_err-process-clause-silent
returns-in_err-process-clause-silent g c = λ built.
    let path = string_bytes c.args.log.now.path in
    silent_join path _ _ _ (opened_silent path _ _ _ c.open_file.ensures.opened) (silent_at path _ _ ((c.process.ensures.made built).silent))

pub returns-clause-silent : goal.returns-clause-silent
returns-clause-silent g c = λ built.
    let path = string_bytes c.args.log.now.path in
    let disk = g.S.Store.disk in
    silent_join path _ _ _
    (silent_join path _ _ _ (opened_silent path _ _ _ c.open_file.ensures.opened) (silent_at path _ _ ((c.process.ensures.made built).silent)))
    (subst (λ (p : List ℕ). Calls (disk c.process.new.store) (disk c.open_file-2.new.store) (λ added. written p added ≡ [])) (c.process.ensures.log.path ∙ c.open_file.ensures.path)
    (opened_silent _ _ _ _ c.open_file-2.ensures.opened))

pub returns-then-not-first-clause-copies : goal.returns-then-not-first-clause-copies
returns-then-not-first-clause-copies g c = λ built none. opened_clean _ _ _ _ c.open_file.ensures.opened

pub returns-in_err-process-clause-copies : goal.returns-in_err-process-clause-copies
returns-in_err-process-clause-copies g c = λ built.
    copies_join _ _ _ _ _ c.open_file.ensures.opened c.process.ensures.limits.store (λ none. opened_clean _ _ _ _ c.open_file.ensures.opened) ((c.process.ensures.made built).copies)

pub returns-clause-copies : goal.returns-clause-copies
returns-clause-copies g c = λ built.
    copies_join _ _ _ _ _ (then_later _ _ _ _ _ c.open_file.ensures.opened c.process.ensures.limits.store) c.open_file-2.ensures.opened
    (copies_join _ _ _ _ _ c.open_file.ensures.opened c.process.ensures.limits.store (λ none. opened_clean _ _ _ _ c.open_file.ensures.opened) ((c.process.ensures.made built).copies))
    (λ none. opened_clean _ _ _ _ c.open_file-2.ensures.opened)

pub returns-in_err-open_file-clause-limited : goal.returns-in_err-open_file-clause-limited
returns-in_err-open_file-clause-limited g c = limited_quiet (g.P.Keep.keeping c.args.policy.now) _ _ _ _ (opened_quiet _ _ _ _ c.open_file.ensures.opened)

pub returns-then-not-first-clause-limited : goal.returns-then-not-first-clause-limited
returns-then-not-first-clause-limited g c = limited_quiet (g.P.Keep.keeping c.args.policy.now) _ _ _ _ (opened_quiet _ _ _ _ c.open_file.ensures.opened)

pub returns-in_err-process-clause-limited : goal.returns-in_err-process-clause-limited
returns-in_err-process-clause-limited g c =
    let disk = g.S.Store.disk in
    let path = string_bytes c.args.log.now.path in
    let how : Open = if c.args.append then Append else Truncate in
    let asked = c.process.ensures.asked in
    limited_behind (g.P.Keep.keeping c.args.policy.now) (g.P.Keep.keeping c.process.new.self) path how (disk c.args.store.now) (disk c.open_file.new.store) (disk c.process.new.store) (opened_quiet path how _ _ c.open_file.ensures.opened)
    (limited_asked _ _ asked.0 path _ how c.process.result _ _ c.open_file.ensures.path asked.3 c.process.ensures.limits)

pub returns-clause-limited : goal.returns-clause-limited
returns-clause-limited g c =
    let disk = g.S.Store.disk in
    let k = g.P.Keep.keeping c.args.policy.now in
    let k1 = g.P.Keep.keeping c.process.new.self in
    let path = string_bytes c.args.log.now.path in
    let how : Open = if c.args.append then Append else Truncate in
    let asked = c.process.ensures.asked in
    limited_then k k1 path how (disk c.args.store.now) (disk c.process.new.store) (disk c.open_file-2.new.store)
    (limited_behind k k1 path how (disk c.args.store.now) (disk c.open_file.new.store) (disk c.process.new.store) (opened_quiet path how _ _ c.open_file.ensures.opened)
    (limited_asked k k1 asked.0 path _ how c.process.result _ _ c.open_file.ensures.path asked.3 c.process.ensures.limits))
    (opened_quiet path how _ _ (subst (λ (p : List ℕ). Calls (disk c.process.new.store) (disk c.open_file-2.new.store) (OnlyOpens p how)) (c.process.ensures.log.path ∙ c.open_file.ensures.path) c.open_file-2.ensures.opened))

pub returns-in_err-open_file-clause-cost : goal.returns-in_err-open_file-clause-cost
returns-in_err-open_file-clause-cost g c = λ built. prepared_makes c.args.first (g.P.Keep.keeping c.args.policy.now) _ _ c.open_file.ensures.cost.made

pub returns-then-not-first-clause-cost : goal.returns-then-not-first-clause-cost
returns-then-not-first-clause-cost g c = λ built. prepared_makes c.args.first (g.P.Keep.keeping c.args.policy.now) _ _ c.open_file.ensures.cost.made

pub returns-in_err-process-clause-cost : goal.returns-in_err-process-clause-cost
returns-in_err-process-clause-cost g c = λ built.
    let disk = g.S.Store.disk in
    let r = rotation_cost (g.P.Keep.keeping c.args.policy.now) in
    let first : c.args.first ≡ true = search rules in
    subst (λ (b : Bool). Makes (if b then r + 4 else 2) (disk c.args.store.now) (disk c.process.new.store)) (sym first)
    (makes_join 2 r (r + 4) (disk c.args.store.now) (disk c.open_file.new.store) (disk c.process.new.store) c.open_file.ensures.cost.made (c.process.ensures.made built).cost (omega arith))

pub returns-clause-cost : goal.returns-clause-cost
returns-clause-cost g c = λ built.
    let disk = g.S.Store.disk in
    let r = rotation_cost (g.P.Keep.keeping c.args.policy.now) in
    let first : c.args.first ≡ true = search rules in
    subst (λ (b : Bool). Makes (if b then r + 4 else 2) (disk c.args.store.now) (disk c.open_file-2.new.store)) (sym first)
    (makes_join (2 + r) 2 (r + 4) (disk c.args.store.now) (disk c.process.new.store) (disk c.open_file-2.new.store)
    (makes_join 2 r (2 + r) (disk c.args.store.now) (disk c.open_file.new.store) (disk c.process.new.store) c.open_file.ensures.cost.made (c.process.ensures.made built).cost (omega arith))
    c.open_file-2.ensures.cost.made (omega arith))

pub returns-in_err-process-clause-cause : goal.returns-in_err-process-clause-cause
returns-in_err-process-clause-cause g c = λ agrees told built tells.
    let disk = g.S.Store.disk in
    let there = λ (removes : IsTrue (g.P.Keep.keeping c.args.policy.now).removes).
    (c.open_file.ensures.agrees agrees).present (subst IsTrue (sym c.open_file.ensures.cost.made.tells) tells) c.in_ok-open_file.ensures.ok in
    caused_behind 2 c.from_residual-in_err-process.result (disk c.args.store.now) (disk c.open_file.new.store) (disk c.process.new.store) c.open_file.ensures.cost.made
    (λ tells1. let cause = c.process.ensures.cause told built there tells1 in search rules) tells
