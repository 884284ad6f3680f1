use Rattle.std.proofs.Common.{refl, arith, ◌-◌, suc, ℕ}
use Rattle.log4rs_config.proofs.Standings.{shared-within, token-shared, standing-order}
use Rattle.log4rs_config.proofs.order.compare_from.Goals as goal

pub token-left-requires : goal.token-left-requires
token-left-requires c = (shared-within c.args.name.now c.args.target.now c.skip-bytes.result c.skip-bytes.ensures.shared).0

pub token-right-requires : goal.token-right-requires
token-right-requires c = (shared-within c.args.name.now c.args.target.now c.skip-bytes.result c.skip-bytes.ensures.shared).1

pub returns-then-left-right-clause-order : goal.returns-then-left-right-clause-order
returns-then-left-right-clause-order c =
    standing-order c.args.name.now c.args.target.now c.skip-bytes.result c.decide.result c.skip-bytes.ensures.shared
    (rw (c.token-left.ensures, c.token-right.ensures) at c.decide.ensures)

pub loop-from-preserved-then-left-eq1 : goal.loop-from-preserved-then-left-eq1
loop-from-preserved-then-left-eq1 c =
    token-shared c.args.name.now c.args.target.now c.skip-bytes.result _ 0 c.token-left.result c.token-right.result c.skip-bytes.ensures.shared c.token-left.ensures c.token-right.ensures
    c.if-left-right.false c.if-left-eq1.true refl

pub loop-from-preserved : goal.loop-from-preserved
loop-from-preserved c =
    let q : ℕ = c.token-left.result - 2 in
    token-shared c.args.name.now c.args.target.now c.skip-bytes.result _ (suc q) c.token-left.result c.token-right.result c.skip-bytes.ensures.shared c.token-left.ensures c.token-right.ensures
    c.if-left-right.false (omega arith) refl
