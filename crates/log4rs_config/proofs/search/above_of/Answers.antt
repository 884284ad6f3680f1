use Rattle.std.proofs.Common.{◌∙◌, ◌<◌, arith, length, map, slice_get, List, Option, ℕ, ap}
use Rattle.log4rs_config.proofs.Climbing.{are-above, one-above}
use Rattle.log4rs_config.proofs.search.above_of.Goals as goal

pub next_above-up-requires-clause-above : goal.next_above-up-requires-clause-above
next_above-up-requires-clause-above g c =
    rw c.deref.ensures.value (are-above g.T.Keyed.key c.args.entries.now c.loop-above.above.items (length c.loop-above.above.items) c.loop-above.invariant.1)

pub loop-above-preserved : goal.loop-above-preserved
loop-above-preserved g c =
    let names = map g.T.Keyed.key c.args.entries.now in
    let lt : length c.loop-above.above.items < length c.args.entries.now = omega (arith, c.len.ensures, c.loop-above-test.true) in
    one-above g.T.Keyed.key c.args.entries.now c.loop-above.above.items c.push.new.self.items c.next_above-up.result lt c.loop-above.invariant.1 c.in_ok-push.ensures.items
    (λ name here. c.next_above-up.ensures name (ap (λ (xs : List (Option ℕ)). slice_get names (length xs)) c.deref.ensures.value ∙ here))

pub returns-clause-above : goal.returns-clause-above
returns-clause-above g c = are-above g.T.Keyed.key c.args.entries.now c.loop-above.above.items (length c.loop-above.above.items) c.loop-above.invariant.1
