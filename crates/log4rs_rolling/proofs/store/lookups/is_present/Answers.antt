use Rattle.std.proofs.Common.{◌≡◌, is_some, sym, ap, ◌∙◌, inl, inr, arith}
use Rattle.log4rs_rolling.specs.MemStore.{files_in}
use Rattle.log4rs_rolling.specs.declared.store.lookups.Trace.{Trace}
use Rattle.log4rs_rolling.proofs.Effects.{one_back}
use Rattle.log4rs_rolling.proofs.store.lookups.is_present.Goals as goal

pub loop-left-preserved-in-Same : goal.loop-left-preserved-in-Same
loop-left-preserved-in-Same c =
    let was = c.loop-left.invariant in
    let back = one_back (files_in c.args.start.now) c.args.effects.now c.loop-left.left
    c.index-effects-left.result c.loop-left.name.now c.trace_of.result _
    (omega (arith, c.loop-left-test.true)) was.1 c.index-effects-left.is c.trace_of.ensures c.in-Same.is in
    (was.0, omega (arith, was.1), was.2 ∙ ap is_some back)

pub loop-left-preserved : goal.loop-left-preserved
loop-left-preserved c =
    let was = c.loop-left.invariant in
    let back = one_back (files_in c.args.start.now) c.args.effects.now c.loop-left.left
    c.index-effects-left.result c.loop-left.name.now c.trace_of.result _
    (omega (arith, c.loop-left-test.true)) was.1 c.index-effects-left.is c.trace_of.ensures c.in-From.is in
    (c.as_str-name.utf8, omega (arith, was.1), was.2 ∙ ap is_some back ∙ (grind arith))

pub returns-in-Absent : goal.returns-in-Absent
returns-in-Absent c =
    let was = c.loop-left.invariant in
    let back = one_back (files_in c.args.start.now) c.args.effects.now c.loop-left.left
    c.index-effects-left.result c.loop-left.name.now c.trace_of.result _
    (omega (arith, c.loop-left-test.true)) was.1 c.index-effects-left.is c.trace_of.ensures c.in-Absent.is in
    sym (was.2 ∙ ap is_some back)

pub returns-in-Empty : goal.returns-in-Empty
returns-in-Empty c =
    let was = c.loop-left.invariant in
    let back = λ (u : Trace) (same : c.trace_of.result ≡ u). one_back (files_in c.args.start.now) c.args.effects.now c.loop-left.left
    c.index-effects-left.result c.loop-left.name.now c.trace_of.result u
    (omega (arith, c.loop-left-test.true)) was.1 c.index-effects-left.is c.trace_of.ensures same in
    sym (was.2 ∙ elim c.in-Empty.is [
      | inl same ↦ ap is_some (back _ same)
      | inr p ↦ ap is_some (back _ p.1)
    ])
