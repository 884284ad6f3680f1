use Rattle.std.proofs.Common.{[], sym, subst, append-nil}
use Rattle.log4rs_config.proofs.Deliveries.{let_nothing_through}
use Rattle.log4rs_config.proofs.delivery.deliver.Goals as goal

pub returns-then-not-allows-clause-delivered : goal.returns-then-not-allows-clause-delivered
returns-then-not-allows-clause-delivered g c = (
  [],
  let_nothing_through _ c.args.limit c.args.places.now _ c.args.«record».now.level c.args.to.now (sym c.if-not-allows.ensures),
  (λ before noted. subst (g.N.NoteDeliveries.noted c.args.notes.now) (sym (append-nil before)) noted),
)
