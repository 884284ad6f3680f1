use Rattle.std.proofs.Common.{◌≡◌, ◌∙◌, sym, ap, Some}
use Rattle.std.specs.Arc.{arc_value}
use Rattle.log4rs_config.specs.Builder.{config_settings}
use Rattle.log4rs_threads.specs.States.{after_swaps}
use Rattle.log4rs_threads.proofs.Knowing.{told_before, deliveries_same}
use Rattle.log4rs_threads.proofs.publish.session.SessionOf.log_on.Goals as goal

pub returns-clause-told : goal.returns-clause-told
returns-clause-told g c =
    let taken : c.self.inside.subscriber ≡ Some c.unwrap-subscriber.result = cc (c.take.ensures.value, c.unwrap-subscriber.ensures) in
    rw (ap (λ s. s.told) (sym c.self.view_is) ∙ told_before c.self.inside.subscriber c.unwrap-subscriber.result taken) c.log_by-subscriber.ensures.told

pub returns-clause-delivered : goal.returns-clause-delivered
returns-clause-delivered g c =
    let config = arc_value c.self.inside.shared in
    let opening = config_settings config in
    let same = deliveries_same (after_swaps opening c.log_by-subscriber.result.0.seen) g.F.Filter.answer config c.args.logged.now in
    rw (← c.self.view_is, same) (rw c.deref.ensures at c.log_by-subscriber.ensures.delivered)
