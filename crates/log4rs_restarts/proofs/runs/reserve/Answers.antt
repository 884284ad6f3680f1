use Rattle.std.proofs.Common.{refl, sym, subst, arith}
use Rattle.log4rs_restarts.specs.Runs.{AreReady}
use Rattle.log4rs_restarts.proofs.Doing.{ready_more}
use Rattle.log4rs_restarts.proofs.runs.reserve.Goals as goal

pub loop-preserved : goal.loop-preserved
loop-preserved c =
    let i = c.loop.invariant in
    let pushed = c.push_reserved.ensures in
    let room = c.in_ok-outcomes.ensures.capacity in
    let room2 = c.in_ok-answers.ensures.capacity in
    record {
      number = let a = pushed.len in let b = i.number in omega arith;
      room = let a = pushed.capacity in let b = i.room in omega arith;
      ready = subst (AreReady c.args.room) (sym pushed.items) (ready_more c.args.room c.loop.reports.items _ i.ready
          (record { outcomes = c.in_ok-outcomes.ensures.items; answers = c.in_ok-answers.ensures.items; no_outcomes = c.in_ok-outcomes.ensures.len; no_answers = c.in_ok-answers.ensures.len; room = omega arith; room_of_answers = omega arith; counts = (refl, refl) }));
    }
