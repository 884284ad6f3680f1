use Rattle.std.proofs.Common.{◌≡◌, ◌++◌, reverse, sym, ap, ◌∙◌, inl, inr, arith, append_assoc}
use Rattle.std.proofs.lemmas.List.{reverse-append, reverse-reverse}
use Rattle.log4rs_rolling.specs.MemStore.{files_in}
use Rattle.log4rs_rolling.proofs.Effects.{one_back, bytes}
use Rattle.log4rs_rolling.proofs.store.lookups.bytes_of.Goals as goal

pub loop-left-preserved-in-Same : goal.loop-left-preserved-in-Same
loop-left-preserved-in-Same c =
    let was = c.loop-left.invariant in
    let back = one_back (files_in c.args.start.now) c.args.effects.now c.loop-left.left
    c.index-effects-left.result c.loop-left.name.now c.trace_of.result _
    (omega (arith, c.loop-left-test.true)) was.1 c.index-effects-left.is c.trace_of.ensures c.in-Same.is in
    (was.0, omega (arith, was.1), was.2 ∙ ap (λ f. bytes f ++ reverse c.loop-left.last_first.items) back)

pub loop-left-preserved-in-From : goal.loop-left-preserved-in-From
loop-left-preserved-in-From c =
    let was = c.loop-left.invariant in
    let back = one_back (files_in c.args.start.now) c.args.effects.now c.loop-left.left
    c.index-effects-left.result c.loop-left.name.now c.trace_of.result _
    (omega (arith, c.loop-left-test.true)) was.1 c.index-effects-left.is c.trace_of.ensures c.in-From.is in
    (c.as_str-name.utf8, omega (arith, was.1), was.2 ∙ ap (λ f. bytes f ++ reverse c.loop-left.last_first.items) back ∙ (grind arith))

pub returns-in-Absent : goal.returns-in-Absent
returns-in-Absent c =
    let was = c.loop-left.invariant in
    let back = λ (u : _) (same : c.trace_of.result ≡ u). one_back (files_in c.args.start.now) c.args.effects.now c.loop-left.left
    c.index-effects-left.result c.loop-left.name.now c.trace_of.result u
    (omega (arith, c.loop-left-test.true)) was.1 c.index-effects-left.is c.trace_of.ensures same in
    c.reverse.ensures.items ∙ sym (was.2 ∙ elim c.in-Absent.is [
      | inl same ↦ ap (λ f. bytes f ++ reverse c.loop-left.last_first.items) (back _ same)
      | inr same ↦ ap (λ f. bytes f ++ reverse c.loop-left.last_first.items) (back _ same)
    ])

pub loop-left-preserved : goal.loop-left-preserved
loop-left-preserved c =
    let was = c.loop-left.invariant in
    let back = one_back (files_in c.args.start.now) c.args.effects.now c.loop-left.left
    c.index-effects-left.result c.loop-left.name.now c.trace_of.result _
    (omega (arith, c.loop-left-test.true)) was.1 c.index-effects-left.is c.trace_of.ensures c.in-Longer.is in
    let step = was.2 ∙ ap (λ f. bytes f ++ reverse c.loop-left.last_first.items) back in
    (was.0, omega (arith, was.1), step ∙ (grind (arith, reverse-append, reverse-reverse, append_assoc, c.in_ok-push_reversed-in-Longer.ensures)))
