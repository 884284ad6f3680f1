use Rattle.std.proofs.Common.{◌≡◌, ◌-◌, ◌+◌, sym, ap, ◌∙◌, inl, inr, arith, length-append}
use Rattle.log4rs_rolling.specs.Change.{bytes_at}
use Rattle.log4rs_rolling.specs.MemStore.{files_in}
use Rattle.log4rs_rolling.proofs.Effects.{files_after, one_back, size}
use Rattle.log4rs_rolling.proofs.store.lookups.len_of.Goals as goal

pub loop-left-preserved-in-Same : goal.loop-left-preserved-in-Same
loop-left-preserved-in-Same c =
    let was = c.loop-left.invariant in
    let back = one_back (files_in c.args.start.now) c.args.effects.now c.loop-left.left
    c.index-effects-left.result c.loop-left.name.now c.trace_of.result _
    (omega (arith, c.loop-left-test.true)) was.1 c.index-effects-left.is c.trace_of.ensures c.in-Same.is in
    (was.0, omega (arith, was.1), was.2 ∙ ap (λ f. size f + c.loop-left.more) back)

pub loop-left-preserved-in-From : goal.loop-left-preserved-in-From
loop-left-preserved-in-From c =
    let was = c.loop-left.invariant in
    let back = one_back (files_in c.args.start.now) c.args.effects.now c.loop-left.left
    c.index-effects-left.result c.loop-left.name.now c.trace_of.result _
    (omega (arith, c.loop-left-test.true)) was.1 c.index-effects-left.is c.trace_of.ensures c.in-From.is in
    (c.as_str-name.utf8, omega (arith, was.1), was.2 ∙ ap (λ f. size f + c.loop-left.more) back ∙ (grind arith))

pub returns-in-Absent-clause-value : goal.returns-in-Absent-clause-value
returns-in-Absent-clause-value c =
    let was = c.loop-left.invariant in
    let back = λ (u : _) (same : c.trace_of.result ≡ u). one_back (files_in c.args.start.now) c.args.effects.now c.loop-left.left
    c.index-effects-left.result c.loop-left.name.now c.trace_of.result u
    (omega (arith, c.loop-left-test.true)) was.1 c.index-effects-left.is c.trace_of.ensures same in
    let none : 0 + c.loop-left.more ≡ c.loop-left.more = omega arith in
    sym (was.2 ∙ elim c.in-Absent.is [
      | inl same ↦ ap (λ f. size f + c.loop-left.more) (back _ same) ∙ none
      | inr same ↦ ap (λ f. size f + c.loop-left.more) (back _ same) ∙ none
    ])

pub loop-left-preserved : goal.loop-left-preserved
loop-left-preserved c =
    let was = c.loop-left.invariant in
    let back = one_back (files_in c.args.start.now) c.args.effects.now c.loop-left.left
    c.index-effects-left.result c.loop-left.name.now c.trace_of.result _
    (omega (arith, c.loop-left-test.true)) was.1 c.index-effects-left.is c.trace_of.ensures c.in-Longer.is in
    let step = was.2 ∙ ap (λ f. size f + c.loop-left.more) back in
    (was.0, omega (arith, was.1), step ∙ (grind (arith, length-append)))

pub returns-in_err-more-in-Longer-clause-none : goal.returns-in_err-more-in-Longer-clause-none
returns-in_err-more-in-Longer-clause-none c =
    let was = c.loop-left.invariant in
    let back = one_back (files_in c.args.start.now) c.args.effects.now c.loop-left.left
    c.index-effects-left.result c.loop-left.name.now c.trace_of.result _
    (omega (arith, c.loop-left-test.true)) was.1 c.index-effects-left.is c.trace_of.ensures c.in-Longer.is in
    let step = was.2 ∙ ap (λ f. size f + c.loop-left.more) back in
    let long = length-append (bytes_at (files_after (files_in c.args.start.now) c.args.effects.now (c.loop-left.left - 1)) c.loop-left.name.now) c.in-Longer.bytes.now in
    grind (arith, step, long, c.in_err-more-in-Longer.ensures)
