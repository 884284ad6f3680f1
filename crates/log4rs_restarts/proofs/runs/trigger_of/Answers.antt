use Rattle.std.proofs.Common.{refl, sym, subst}
use Rattle.log4rs_rolling.specs.declared.trigger.AnyTriggerOf.TheVariants as any
use Rattle.log4rs_restarts.specs.Triggers.{Begins}
use Rattle.log4rs_restarts.proofs.runs.trigger_of.Goals as goal

pub returns-in_ok-new-in-Time-clause-begins : goal.returns-in_ok-new-in-Time-clause-begins
returns-in_ok-new-in-Time-clause-begins c =
    let made = c.in_ok-new-in-Time in
    subst (λ s. Begins s (any.Time made.field-0)) (sym c.in-Time.is) (made.field-0, refl, made.ensures.config, made.ensures.next)
