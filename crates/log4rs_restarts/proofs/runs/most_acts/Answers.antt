use Rattle.std.proofs.Common.{ℕ, ◌≤◌, nat_cmp, sym, subst, take_all, arith}
use Rattle.std.specs.Ordering.{ord_max}
use Rattle.std.proofs.lemmas.Grind.{common_steps}
use Rattle.log4rs_restarts.specs.Runs.{HaveRoom}
use Rattle.log4rs_restarts.proofs.Doing.{room_more}
use Rattle.log4rs_restarts.proofs.runs.most_acts.Goals as goal

most_of : (a b : ℕ) → (a ≤ ord_max nat_cmp a b) × (b ≤ ord_max nat_cmp a b)
most_of a b = (grind (arith, common_steps), grind (arith, common_steps))

pub loop-run-preserved : goal.loop-run-preserved
loop-run-preserved c =
    let most = most_of c.loop-run.most c.len.result in
    let is = c.max-most.ensures in
    let len = c.len.ensures in
    let whole = c.run-item.result.acts.ok.0 in
    let one : c.loop-run.most ≤ c.max-most.result = subst (λ (n : ℕ). c.loop-run.most ≤ n) (sym is) most.0 in
    let other : c.len.result ≤ c.max-most.result = subst (λ (n : ℕ). c.len.result ≤ n) (sym is) most.1 in
    room_more c.args.runs.now c.loop-run.run-index c.loop-run.most _ c.run-item.result c.loop-run-test.true c.run-item.is one (omega arith) c.loop-run.invariant

pub returns : goal.returns
returns c = subst (HaveRoom c.loop-run.most) (take_all c.loop-run.run-index c.args.runs.now c.loop-run-test.false) c.loop-run.invariant
