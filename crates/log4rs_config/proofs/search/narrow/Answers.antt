use Rattle.std.proofs.Common.{◌≡◌, ◌<◌, ◌≤◌, ℕ, ◌+◌, ◌-◌, ◌/◌, Some, slice_get, subst, arith, ⊎_elim}
use Rattle.log4rs_config.proofs.Halving.{either}
use Rattle.log4rs_config.proofs.Narrowed.{half-left, smaller}
use Rattle.log4rs_config.proofs.search.narrow.Goals as goal

pub returns-then-value-wanted-clause-turns : goal.returns-then-value-wanted-clause-turns
returns-then-value-wanted-clause-turns g c digits few =
    half-left (c.loop-high.high - c.loop-high.front.end) c.loop-high.turns c.at-value.new.turns (c.args.turns.now + digits) (omega (arith, c.loop-high-test.true, c.end.ensures)) c.at-value.ensures.turns
    (c.loop-high.invariant.4 digits few)

pub loop-high-preserved-then-value-wanted-2 : goal.loop-high-preserved-then-value-wanted-2
loop-high-preserved-then-value-wanted-2 g c =
    let values = c.args.looked.now.digests.now.values.items in
    let low = c.loop-high.front.end in
    let high = c.loop-high.high in
    let place : ℕ = (c.end-low.result + high) / 2 in
    let (_, within, _, above, turns) = c.loop-high.invariant in
    let next = c.at-value.ensures.front in (
      omega (arith, next, c.loop-high-test.true, c.end.ensures, c.end-low.ensures),
      within,
      (λ value some at.
          let here : slice_get values place ≡ Some value = subst (λ (n : ℕ). slice_get values n ≡ Some value) {x = c.at-value.result.2.end - 1} {y = place} (omega (arith, next)) at in
          let is : c.at-value.result.0 ≡ value = cc (c.at-value.ensures.digest, here) in
          omega (arith, is, c.if-value-wanted-2.true)),
      above,
      (λ digits few.
          smaller (high - c.at-value.result.2.end) ((high - low) / 2) c.at-value.new.turns (c.args.turns.now + digits) (omega (arith, next, c.loop-high-test.true, c.end.ensures, c.end-low.ensures))
          (half-left (high - low) c.loop-high.turns c.at-value.new.turns (c.args.turns.now + digits) (omega (arith, c.loop-high-test.true, c.end.ensures)) c.at-value.ensures.turns (turns digits few))),
    )

pub loop-high-preserved : goal.loop-high-preserved
loop-high-preserved g c =
    let low = c.loop-high.front.end in
    let high = c.loop-high.high in
    let place : ℕ = (c.end-low.result + high) / 2 in
    let (_, within, below, _, turns) = c.loop-high.invariant in (
      omega (arith, c.loop-high-test.true, c.end.ensures, c.end-low.ensures),
      omega (arith, within, c.loop-high-test.true, c.end.ensures, c.end-low.ensures),
      below,
      (λ value at.
          let is : c.at-value.result.0 ≡ value = cc (c.at-value.ensures.digest, at) in
          ⊎_elim (λ (l : c.args.wanted < value). l)
          (λ (m : value ≤ c.args.wanted). absurd (c.if-value-wanted.false (omega (arith, is, m, c.if-value-wanted-2.false))))
          (either c.args.wanted value)),
      (λ digits few.
          smaller (place - low) ((high - low) / 2) c.at-value.new.turns (c.args.turns.now + digits) (omega (arith, c.loop-high-test.true, c.end.ensures, c.end-low.ensures))
          (half-left (high - low) c.loop-high.turns c.at-value.new.turns (c.args.turns.now + digits) (omega (arith, c.loop-high-test.true, c.end.ensures)) c.at-value.ensures.turns (turns digits few))),
    )
