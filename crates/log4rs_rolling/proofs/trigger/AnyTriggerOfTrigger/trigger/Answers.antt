use Rattle.std.proofs.Common.{refl, sym, subst}
use Rattle.log4rs_rolling.specs.Asking.{answer_in}
use Rattle.log4rs_rolling.specs.Triggers.{NotesAny}
use Rattle.log4rs_rolling.specs.declared.trigger.AnyTriggerOf.TheVariants.{Time}
use Rattle.log4rs_rolling.proofs.Noting.{time_notes}
use Rattle.log4rs_rolling.proofs.trigger.AnyTriggerOfTrigger.trigger.Goals as goal

pub returns-in-Time-clause-noted : goal.returns-in-Time-clause-noted
returns-in-Time-clause-noted g c =
    let call = c.trigger-in-Time in
    let context = c.args.context.now in
    subst (λ t. NotesAny g.C.Trigger.notes context t (answer_in call.result) (Time call.new.self)) (sym c.in-Time.is)
    (call.new.self, refl, time_notes context c.in-Time.trigger call.new.self call.result call.ensures.answered call.ensures.step)
