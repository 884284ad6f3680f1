use Rattle.std.proofs.Common.{◌-◌, ◌∙◌, ◌≡◌, ℕ, List, Option, Some, None, subst, sym, IsTrue, length, drop, arith, rules}
use Rattle.std.specs.Option.{IsSome}
use Rattle.std.proofs.lemmas.List.{length-drop, length-take}
use Rattle.log4rs_rolling.proofs.Costing.{counted_makes, makes_join, makes_within, write_denied}
use Rattle.log4rs_rolling.proofs.Written.{write_more, write_refused}
use Rattle.log4rs_rolling.proofs.store.write.write_bytes.Goals as goal

none_open : (o : Option (List ℕ)) → o ≡ None → IsSome o → ⊥
none_open None none some = absurd (search rules)
none_open (Some path) none some = cc

pub loop-done-preserved : goal.loop-done-preserved
loop-done-preserved g c =
    let took = c.in-Ok.ensures.ok in
    let was = c.loop-done.invariant in
    let disk = g.S.Store.disk in
    record {
      within = omega (arith, took.bound, length-take (length c.args.bytes.now - c.loop-done.done) (drop c.loop-done.done c.args.bytes.now), length-drop c.loop-done.done c.args.bytes.now);
      count = took.does.refusals ∙ was.count;
      shut = λ tells none. absurd (none_open _ (was.opened tells ∙ none) (took.is_open (subst IsTrue (sym was.calls.tells) tells)));
      opened = λ tells. took.does.opened (subst IsTrue (sym was.calls.tells) tells) ∙ was.opened tells;
      made = let some = took.progress (omega (arith, length-drop c.loop-done.done c.args.bytes.now)) in
          makes_join c.loop-done.done 1 _ (disk c.args.store.now) (disk c.loop-done.store) (disk c.write.new.self) was.made (counted_makes _ _ _ c.write.ensures.counted) (omega arith);
      calls = write_more (disk c.args.store.now) (disk c.loop-done.store) (disk c.write.new.self) c.args.bytes.now c.loop-done.done c.in-Ok.taken was.calls was.opened took;
    }

pub returns-in-Err-clause-written : goal.returns-in-Err-clause-written
returns-in-Err-clause-written g c =
    let disk = g.S.Store.disk in
    write_refused (disk c.args.store.now) (disk c.loop-done.store) (disk c.write.new.self) c.args.bytes.now c.loop-done.done c.loop-done.invariant.calls c.in-Err.ensures.err

pub returns-in-Err-clause-opened : goal.returns-in-Err-clause-opened
returns-in-Err-clause-opened g c = λ tells.
    c.in-Err.ensures.err.opened (subst IsTrue (sym c.loop-done.invariant.calls.tells) tells) ∙ c.loop-done.invariant.opened tells

pub returns-in-Err-clause-cost : goal.returns-in-Err-clause-cost
returns-in-Err-clause-cost g c =
    let disk = g.S.Store.disk in
    let was = c.loop-done.invariant in
    let more = c.loop-done-test.true in
    record {
      made = makes_join c.loop-done.done 1 _ (disk c.args.store.now) (disk c.loop-done.store) (disk c.write.new.self) was.made (counted_makes _ _ _ c.write.ensures.counted) (omega arith);
      cause = λ tells some short. write_denied _ _ (disk c.args.store.now) (disk c.loop-done.store) (disk c.write.new.self) c.in-Err.ensures.counted c.in-Err.ensures.kind c.in-Err.ensures.not_open was.made was.opened tells some;
    }

pub returns-clause-cost : goal.returns-clause-cost
returns-clause-cost g c =
    let disk = g.S.Store.disk in
    let was = c.loop-done.invariant in
    let within = was.within in
    let all = c.loop-done-test.false in
    record {
      made = makes_within _ _ (disk c.args.store.now) (disk c.loop-done.store) was.made within;
      cause = λ tells some short. absurd (omega arith);
    }
