use Rattle.std.proofs.Common.{rules, refl, sym, subst, ◌+◌}
use Rattle.log4rs_rolling.specs.LogFile.{Agrees, estimate}
use Rattle.log4rs_rolling.specs.declared.log_file.LogFile.{LogFile}
use Rattle.log4rs_rolling.proofs.Parts.{wrote_agrees, wrote_clean}
use Rattle.log4rs_append.proofs.Spending.{open_is_some}
use Rattle.log4rs_append.proofs.rolling_file.parts.write_record.Goals as goal

pub returns-then-taken-text-clause-agrees : goal.returns-then-taken-text-clause-agrees
returns-then-taken-text-clause-agrees g c =
    let log = c.args.log.now in
    let d0 = g.S.Store.disk c.args.store.now in
    let d1 = g.S.Store.disk c.write_bytes-taken.new.store in
    subst (λ (l : LogFile). Agrees log d0 → Agrees l d1) (sym c.grow.ensures)
    (wrote_agrees log c.args.text.now c.write_bytes-taken.result (estimate (log.len + c.write_bytes-taken.result)) d0 d1
    c.requires c.write_bytes-taken.ensures.bound refl c.write_bytes-taken.ensures.written c.write_bytes-taken.ensures.opened)

pub returns-clause-agrees : goal.returns-clause-agrees
returns-clause-agrees g c =
    let log = c.args.log.now in
    let d0 = g.S.Store.disk c.args.store.now in
    let d1 = g.S.Store.disk c.write_bytes-taken.new.store in
    subst (λ (l : LogFile). Agrees log d0 → Agrees l d1) (sym c.grow.ensures)
    (wrote_agrees log c.args.text.now c.write_bytes-taken.result (estimate (log.len + c.write_bytes-taken.result)) d0 d1
    c.requires c.write_bytes-taken.ensures.bound refl c.write_bytes-taken.ensures.written c.write_bytes-taken.ensures.opened)

pub returns-then-taken-text-clause-copies : goal.returns-then-taken-text-clause-copies
returns-then-taken-text-clause-copies g c = wrote_clean _ _ _ _ c.write_bytes-taken.ensures.written

pub returns-clause-copies : goal.returns-clause-copies
returns-clause-copies g c = wrote_clean _ _ _ _ c.write_bytes-taken.ensures.written

pub returns-then-taken-text-clause-cost : goal.returns-then-taken-text-clause-cost
returns-then-taken-text-clause-cost g c = λ agrees.
    let cost = c.write_bytes-taken.ensures.cost in
    record {
      made = cost.made;
      cause = λ tells store. cost.cause tells (open_is_some c.args.log.now (g.S.Store.disk c.args.store.now) agrees c.requires tells) (search rules);
    }

pub returns-clause-cost : goal.returns-clause-cost
returns-clause-cost g c = λ agrees. record { made = c.write_bytes-taken.ensures.cost.made; cause = λ tells. tt }
