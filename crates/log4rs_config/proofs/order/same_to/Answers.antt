use Rattle.std.proofs.Common.{refl, arith, ⊎_elim, ◌<◌, ◌≤◌, ◌-◌}
use Rattle.log4rs_config.proofs.Cutting.{word-same}
use Rattle.log4rs_config.proofs.Halving.{either}
use Rattle.log4rs_config.proofs.order.same_to.Goals as goal

pub loop-at-preserved : goal.loop-at-preserved
loop-at-preserved c =
    let inv = c.loop-at.invariant in
    let told = c.loop-at-test.ensures in
    let within = told.within refl in (
      omega (arith, inv.0),
      omega (arith, within, c.min-end.ensures),
      omega (arith, within, c.min-end.ensures),
      omega (arith, within),
      (λ i l m.
          ⊎_elim (λ (n : i < c.loop-at.at). inv.4 i l n)
          (λ (n : c.loop-at.at ≤ i). word-same c.args.name.now c.args.target.now c.loop-at.at (told.same refl) i n m)
          (either i c.loop-at.at)),
    )

pub returns-then-same_word-clause-same : goal.returns-then-same_word-clause-same
returns-then-same_word-clause-same c i l m =
    ⊎_elim (λ (n : i < c.loop-at.at). c.loop-at.invariant.4 i l n)
    (λ (n : c.loop-at.at ≤ i).
    word-same c.args.name.now c.args.target.now (c.min-end.result - 8) (c.same_word-then-end-at.ensures.same c.if-same_word.true) i (omega (arith, n, c.if-end-at.true))
    (omega (arith, m, c.if-end-ge8.true)))
    (either i c.loop-at.at)
