use Rattle.std.proofs.Common.{◌≡◌, ◌∙◌, ◌-◌, length, sym, arith}
use Rattle.log4rs_base.proofs.DirectiveNames.{found_here, found_later, found_none}
use Rattle.log4rs_base.proofs.dates.format.found_in.Goals as goal

pub returns-in-Some-clause-behind : goal.returns-in-Some-clause-behind
returns-in-Some-clause-behind c =
    let taken : length c.args.text.now - length c.in-Some.behind.now ≡ c.in-Some.ensures.cases.0 = omega (arith, c.in-Some.ensures.cases.3) in
    record { end = rw taken c.in-Some.ensures.cases.2; within = omega (arith, c.in-Some.ensures.cases.3) }

pub returns-in-Some-clause-found : goal.returns-in-Some-clause-found
returns-in-Some-clause-found c =
    sym (c.loop-entry.invariant ∙ found_here c.args.names.now c.loop-entry.entry-index _ c.args.text.now c.in-Some.behind.now c.loop-entry-test.true
    (rw c.in-Some.ensures.cases.2 c.in-Some.ensures.cases.1.1))

pub returns-clause-found : goal.returns-clause-found
returns-clause-found c = sym (c.loop-entry.invariant ∙ found_none c.args.names.now c.loop-entry.entry-index c.args.text.now c.loop-entry-test.false)

pub loop-entry-preserved : goal.loop-entry-preserved
loop-entry-preserved c =
    c.loop-entry.invariant ∙ found_later c.args.names.now c.loop-entry.entry-index _ c.args.text.now c.loop-entry-test.true c.in_default.ensures.cases
