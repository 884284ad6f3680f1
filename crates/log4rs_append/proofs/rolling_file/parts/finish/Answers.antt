use Rattle.std.proofs.Common.{rules, ◌≡◌, ◌+◌, string_bytes, length, Bool, None, false, inl, inr, refl, sym, subst, arith, IsTrue, if◌then◌else◌, Ok}
use Rattle.log4rs_rolling.specs.LogFile.{Agrees}
use Rattle.log4rs_rolling.proofs.Quiet.{wrote_alone, wrote_quiet, processed_behind}
use Rattle.log4rs_rolling.proofs.Parts.{finished_writing, finished_asked, text_written, text_asked, text_kept, not_both}
use Rattle.log4rs_rolling.proofs.Limits.{limited_asked, limited_behind, limited_quiet}
use Rattle.log4rs_rolling.proofs.Copying.{copies_join}
use Rattle.log4rs_rolling.proofs.Counting.{counts_asked, processed_counts, text_all}
use Rattle.log4rs_rolling.proofs.Shown.{grows_asked}
use Rattle.log4rs_rolling.proofs.Reopening.{both_none, processed_none, writes_none}
use Rattle.log4rs_rolling.specs.Costs.{Makes}
use Rattle.log4rs_rolling.specs.Keeping.{rotation_cost}
use Rattle.log4rs_rolling.proofs.Costing.{caused_behind, makes_join}
use Rattle.log4rs_append.proofs.Spending.{wrote_makes}
use Rattle.log4rs_append.proofs.rolling_file.parts.finish.Goals as goal

pub returns-in_err-write_record-clause-finished : goal.returns-in_err-write_record-clause-finished
returns-in_err-write_record-clause-finished g c =
    let disk = g.S.Store.disk in
    let p = c.args.policy.now in (
      None,
      inr (refl, refl),
      λ e. (refl, refl),
      finished_writing _ (g.P.Policy.asking p) c.args.context.now (g.P.Keep.keeping p) (Agrees c.args.log.now (disk c.args.store.now)) (string_bytes c.args.log.now.path)
          (disk c.args.store.now) (disk c.write_record.new.store) c.write_record.ensures.written,
      λ agrees. search rules,
      λ agrees. wrote_alone _ _ _ _ (c.write_record.ensures.written agrees),
      λ agrees built some. absurd (search rules),
      search rules,
      λ agrees tells. writes_none (string_bytes c.args.log.now.path) (disk c.args.store.now) (disk c.write_record.new.store) (wrote_alone _ _ _ _ (c.write_record.ensures.written agrees)),
    )

pub returns-then-first-clause-finished : goal.returns-then-first-clause-finished
returns-then-first-clause-finished g c =
    let disk = g.S.Store.disk in
    let p = c.args.policy.now in (
      None,
      inr (refl, refl),
      λ e. (refl, refl),
      finished_writing _ (g.P.Policy.asking p) c.args.context.now (g.P.Keep.keeping p) (Agrees c.args.log.now (disk c.args.store.now)) (string_bytes c.args.log.now.path)
          (disk c.args.store.now) (disk c.write_record.new.store) c.write_record.ensures.written,
      text_written c.args.text.now c.args.first (g.P.Policy.asking p) c.args.context.now (Ok tt) (g.P.Keep.keeping p) (Agrees c.args.log.now (disk c.args.store.now)) (string_bytes c.args.log.now.path)
          (disk c.args.store.now) (disk c.write_record.new.store) (search rules) c.in_ok-write_record.ensures.written,
      λ agrees. wrote_alone _ _ _ _ (c.write_record.ensures.written agrees),
      λ agrees built some. absurd (search rules),
      c.in_ok-write_record.ensures.told.unrefused,
      λ agrees tells. writes_none (string_bytes c.args.log.now.path) (disk c.args.store.now) (disk c.write_record.new.store) (wrote_alone _ _ _ _ (c.write_record.ensures.written agrees)),
    )

pub returns-clause-finished : goal.returns-clause-finished
returns-clause-finished g c =
    let disk = g.S.Store.disk in
    let p = c.args.policy.now in
    let asked = c.process.ensures.asked in
    let last : c.args.first ≡ false = search rules in (
      asked.0,
      inl asked.2,
      λ e. not_both c.args.first e last,
      finished_asked _ (g.P.Policy.asking p) c.args.context.now asked.0 c.process.result (g.P.Keep.keeping p) (g.P.Keep.keeping c.process.new.self)
          (Agrees c.args.log.now (disk c.args.store.now)) (string_bytes c.args.log.now.path) (string_bytes c.write_record.new.log.path) c.write_record.new.log.len
          (disk c.args.store.now) (disk c.write_record.new.store) (disk c.process.new.store)
          (c.write_record.ensures.path) c.write_record.ensures.written
          (λ agrees tells. (c.write_record.ensures.agrees agrees).len tells c.write_record.ensures.open) asked.1 asked.3,
      text_asked tt c.args.text.now c.args.first (g.P.Policy.asking p) c.args.context.now asked.0 c.process.result (g.P.Keep.keeping p) (g.P.Keep.keeping c.process.new.self)
          (Agrees c.args.log.now (disk c.args.store.now)) (string_bytes c.args.log.now.path) (string_bytes c.write_record.new.log.path) c.write_record.new.log.len
          (disk c.args.store.now) (disk c.write_record.new.store) (disk c.process.new.store)
          (c.write_record.ensures.path) c.in_ok-write_record.ensures.written
          (λ agrees tells. (c.write_record.ensures.agrees agrees).len tells c.write_record.ensures.open) asked.1 asked.3 c.process.ensures.limits.store,
      λ agrees. processed_behind _ _ _ asked.0 _ _ _ _ _ (wrote_alone _ _ _ _ (c.write_record.ensures.written agrees)) asked.3,
      λ agrees built some. text_all tt c.args.text.now (string_bytes c.args.log.now.path) _ _ _ (c.in_ok-write_record.ensures.written agrees) ((c.process.ensures.made built).silent),
      counts_asked asked.0 c.process.result _ _ _ c.in_ok-write_record.ensures.told.unrefused (processed_counts _ _ asked.0 _ _ _ _ asked.3),
      λ agrees tells. both_none (disk c.args.store.now) (disk c.write_record.new.store) (disk c.process.new.store)
          (writes_none (string_bytes c.args.log.now.path) (disk c.args.store.now) (disk c.write_record.new.store) (wrote_alone _ _ _ _ (c.write_record.ensures.written agrees)))
          (processed_none (g.P.Keep.keeping p) (g.P.Keep.keeping c.process.new.self) asked.0 (string_bytes c.args.log.now.path) (string_bytes c.write_record.new.log.path) c.process.result
          (disk c.write_record.new.store) (disk c.process.new.store) c.write_record.ensures.path asked.3 tells),
    )

pub returns-clause-memory : goal.returns-clause-memory
returns-clause-memory g c = λ agrees built is.
    text_all tt c.args.text.now (string_bytes c.args.log.now.path) _ _ _ (c.in_ok-write_record.ensures.written agrees) ((c.process.ensures.made built).silent)

pub returns-clause-wrote : goal.returns-clause-wrote
returns-clause-wrote g c = λ agrees built.
    text_kept tt c.args.text.now c.process.result (string_bytes c.args.log.now.path) _ _ _ (c.in_ok-write_record.ensures.written agrees) ((c.process.ensures.made built).silent)

pub returns-clause-copies : goal.returns-clause-copies
returns-clause-copies g c = λ built. copies_join _ _ _ _ _ c.write_record.ensures.store c.process.ensures.limits.store (λ none. c.write_record.ensures.copies) ((c.process.ensures.made built).copies)

pub returns-clause-shown : goal.returns-clause-shown
returns-clause-shown g c = λ late agrees.
    let disk = g.S.Store.disk in
    let p = c.args.policy.now in
    let asked = c.process.ensures.asked in
    grows_asked tt c.args.text.now (g.P.Policy.asking p) c.args.context.now asked.0 c.process.result (g.P.Keep.keeping p) (g.P.Keep.keeping c.process.new.self)
    (string_bytes c.args.log.now.path) (string_bytes c.write_record.new.log.path) c.write_record.new.log.len
    (disk c.args.store.now) (disk c.write_record.new.store) (disk c.process.new.store)
    c.write_record.ensures.path (c.in_ok-write_record.ensures.written agrees)
    (λ tells. (c.write_record.ensures.agrees agrees).len tells c.write_record.ensures.open) asked.1 asked.3

pub returns-in_err-write_record-clause-limited : goal.returns-in_err-write_record-clause-limited
returns-in_err-write_record-clause-limited g c = λ agrees how. limited_quiet (g.P.Keep.keeping c.args.policy.now) _ how _ _ (wrote_quiet _ how _ _ (wrote_alone _ _ _ _ (c.write_record.ensures.written agrees)))

pub returns-then-first-clause-limited : goal.returns-then-first-clause-limited
returns-then-first-clause-limited g c = λ agrees how. limited_quiet (g.P.Keep.keeping c.args.policy.now) _ how _ _ (wrote_quiet _ how _ _ (wrote_alone _ _ _ _ (c.write_record.ensures.written agrees)))

pub returns-clause-limited : goal.returns-clause-limited
returns-clause-limited g c = λ agrees how.
    let disk = g.S.Store.disk in
    let path = string_bytes c.args.log.now.path in
    let asked = c.process.ensures.asked in
    limited_behind (g.P.Keep.keeping c.args.policy.now) (g.P.Keep.keeping c.process.new.self) path how (disk c.args.store.now) (disk c.write_record.new.store) (disk c.process.new.store)
    (wrote_quiet path how _ _ (wrote_alone _ _ _ _ (c.write_record.ensures.written agrees)))
    (limited_asked _ _ asked.0 path _ how c.process.result _ _ c.write_record.ensures.path asked.3 c.process.ensures.limits)

pub returns-in_err-write_record-clause-cost : goal.returns-in_err-write_record-clause-cost
returns-in_err-write_record-clause-cost g c = λ agrees built. wrote_makes c.args.first (g.P.Keep.keeping c.args.policy.now) (length c.args.text.now) _ _ (c.write_record.ensures.cost agrees).made

pub returns-then-first-clause-cost : goal.returns-then-first-clause-cost
returns-then-first-clause-cost g c = λ agrees built. wrote_makes c.args.first (g.P.Keep.keeping c.args.policy.now) (length c.args.text.now) _ _ (c.write_record.ensures.cost agrees).made

pub returns-clause-cost : goal.returns-clause-cost
returns-clause-cost g c = λ agrees built.
    let disk = g.S.Store.disk in
    let n = length c.args.text.now in
    let r = rotation_cost (g.P.Keep.keeping c.args.policy.now) in
    let last : c.args.first ≡ false = search rules in
    subst (λ (b : Bool). Makes (n + (if b then 0 else r)) (disk c.args.store.now) (disk c.process.new.store)) (sym last)
    (makes_join n r (n + r) (disk c.args.store.now) (disk c.write_record.new.store) (disk c.process.new.store) (c.write_record.ensures.cost agrees).made (c.process.ensures.made built).cost (omega arith))

pub returns-clause-cause : goal.returns-clause-cause
returns-clause-cause g c = λ agrees told built tells.
    let disk = g.S.Store.disk in
    let wrote = c.write_record.ensures.cost agrees in
    let there = λ (removes : IsTrue (g.P.Keep.keeping c.args.policy.now).removes).
    (c.write_record.ensures.agrees agrees).present (subst IsTrue (sym wrote.made.tells) tells) c.write_record.ensures.open in
    caused_behind (length c.args.text.now) c.process.result (disk c.args.store.now) (disk c.write_record.new.store) (disk c.process.new.store) wrote.made
    (c.process.ensures.cause told built there) tells
