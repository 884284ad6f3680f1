use Rattle.std.proofs.Common.{◌∙◌, sym, ap, arith, inr, length, take}
use Rattle.std.proofs.lemmas.List.{take_all}
use Rattle.log4rs_config.specs.Standing.{tokens, last_start}
use Rattle.log4rs_config.proofs.Cutting.{start-more, start-fewer}
use Rattle.log4rs_config.proofs.order.start_of.Goals as goal

pub loop-end-init : goal.loop-end-init
loop-end-init c = (omega arith, sym (ap (λ x. last_start 0 0 (tokens x)) (take_all (length c.args.name.now) c.args.name.now (omega arith))))

pub returns-then-end-begin-ge2 : goal.returns-then-end-begin-ge2
returns-then-end-begin-ge2 c =
    let told = c.colons-begin.ensures in
    let inv = c.loop-end.invariant in
    start-more c.args.name.now c.loop-end.end c.colons-begin.result inv.0 told.within.1 told.colons told.first c.if-end-begin-ge2.true ∙ sym inv.1

pub loop-end-preserved : goal.loop-end-preserved
loop-end-preserved c =
    let told = c.colons-begin.ensures in
    let inv = c.loop-end.invariant in (
      omega (arith, inv.0),
      inv.1 ∙ start-fewer c.args.name.now c.loop-end.end c.colons-begin.result c.loop-end-test.true inv.0 told.within.1 told.first c.if-end-begin-ge2.false,
    )

pub loop-end-preserved-then-name-end-ne58 : goal.loop-end-preserved-then-name-end-ne58
loop-end-preserved-then-name-end-ne58 c =
    let inv = c.loop-end.invariant in (
      omega (arith, inv.0),
      inv.1 ∙ start-fewer c.args.name.now c.loop-end.end c.loop-end.end c.loop-end-test.true inv.0 (omega arith) (inr c.if-name-end-ne58.true) (omega arith),
    )

pub returns : goal.returns
returns c =
    let inv = c.loop-end.invariant in
    sym (inv.1 ∙ ap (λ n. last_start 0 0 (tokens (take n c.args.name.now))) {x = c.loop-end.end} {y = 0} (omega (arith, c.loop-end-test.false)))
