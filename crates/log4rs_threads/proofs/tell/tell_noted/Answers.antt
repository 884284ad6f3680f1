use Rattle.std.proofs.Common.{◌≡◌, rules, subst, append_assoc}
use Rattle.log4rs_threads.proofs.Told.{told_more, never_none}
use Rattle.log4rs_threads.proofs.tell.tell_noted.Goals as goal
use Rattle.log4rs_threads.proofs.tell.tell_noted.Goals.{in-Some, in_default}

pub loop-error-preserved : goal.loop-error-preserved
loop-error-preserved g c = λ failed are faults told.
    let before = c.loop-error.invariant failed are faults told in
    elim c.match-error.branch [
      | in-Some w ↦
          let more = told_more c.args.errors.now _ _ _ c.loop-error-test.true c.error-item.is w.in-Some.is in
          let last : c.match-error.teller ≡ w.tell_append.new.self = search rules in
          rw (last, more) (subst (g.T.TellFault.told w.tell_append.new.self) (append_assoc faults _ _) (w.tell_append.ensures _ before))
      | in_default w ↦ absurd (never_none failed c.loop-error.error-index c.error-item.result (rw are at c.loop-error-test.true) (rw are at c.error-item.is) w.in_default.is)
    ]
