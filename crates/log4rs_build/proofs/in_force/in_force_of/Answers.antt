use Rattle.std.proofs.Common.{map, sym, ap}
use Rattle.std.proofs.lemmas.List.Elements.{All-push}
use Rattle.log4rs_plans.specs.Effective.{Planned}
use Rattle.log4rs_build.specs.Standing.{WasAsked}
use Rattle.log4rs_plans.specs.Effective.{planned_of}
use Rattle.log4rs_plans.proofs.Elements.{element_at}
use Rattle.log4rs_build.proofs.in_force.in_force_of.Goals.{in-Some+in_ok-share+in_ok-push, in_default}
use Rattle.log4rs_build.proofs.in_force.in_force_of.Goals as goal

pub loop-shared-preserved : goal.loop-shared-preserved
loop-shared-preserved g c =
    let xs = c.args.present.now in
    let asked = map planned_of c.args.asked.now in
    let x = c.shared-item.result in
    let here = element_at xs c.loop-shared.shared-index x c.loop-shared-test.true c.shared-item.is in
    elim c.match-plan_of.branch [
      | in-Some+in_ok-share+in_ok-push w ↦
          let is = w.in_ok-share.ensures.planned in
          let stands = rw c.as_str.ensures.value at w.in-Some.ensures in
          rw (w.in_force-is, w.in_ok-push.ensures.items) (All-push (WasAsked asked xs) c.loop-shared.in_force.items w.in_ok-share.field-0 c.loop-shared.invariant (
            rw is stands,
            (x, here, sym (ap (λ (p : Planned). p.0) is), w.in_ok-share.ensures.lock),
          ))
      | in_default w ↦ rw w.in_force-is c.loop-shared.invariant
    ]
