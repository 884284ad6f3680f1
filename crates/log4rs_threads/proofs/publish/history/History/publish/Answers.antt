use Rattle.std.proofs.Common.{◌∙◌, ◌++◌, ◌∷◌, [], Some, sym, ap, refl}
use Rattle.log4rs_threads.specs.Entries.{head_of}
use Rattle.log4rs_threads.proofs.Beginnings.{counted_next, tidings_next}
use Rattle.log4rs_threads.proofs.Adding.{adds_moves}
use Rattle.log4rs_threads.proofs.publish.history.History.publish.Goals as goal

pub compare_exchange-requires : goal.compare_exchange-requires
compare_exchange-requires g c =
    let i = c.self.invariant in
    let offer = c.plain-offer.ensures in
    let book = sym (ap (λ w. w.book) i.1) in (
      ap (λ w. w.tracked) i.1,
      book,
      i.2 ∙ book,
      offer.0,
      rw (ap (λ w. w.key) i.1, offer.3) (adds_moves c.self.inside.seen.log c.plain-offer.result.ask c.self.inside.swaps c.self.inside.pen.nib (sym i.0.1) i.3 i.4),
    )

pub invariant_of-self : goal.invariant_of-self
invariant_of-self g c =
    let i = c.self.invariant in
    let log = c.compare_exchange.ensures.7 ∙ ap (λ e. c.self.inside.seen.log ++ e ∷ []) (rw (c.plain-offer.ensures.1, c.of.ensures, c.of-2.ensures) refl) in (
      counted_next c.self.inside.swaps c.self.inside.seen.log c.compare_exchange.new.seen.log c.args.lists.now c.pen_by-next.result.nib.key i.0 log,
      i.1 ∙ ap head_of (sym c.compare_exchange.ensures.0),
      c.pen_by-next.ensures.0 ∙ sym c.compare_exchange.ensures.0,
      c.pen_by-next.ensures.1,
      (c.self.inside.seen.log, Some c.args.lists.now, log),
    )

pub returns : goal.returns
returns g c =
    let log = c.compare_exchange.ensures.7 ∙ ap (λ e. c.self.inside.seen.log ++ e ∷ []) (rw (c.plain-offer.ensures.1, c.of.ensures, c.of-2.ensures) refl) in
    rw (← c.self.view_is)
    (tidings_next c.self.inside.seen.log c.compare_exchange.new.seen.log c.args.lists.now c.pen_by-next.result.nib.key c.self.inside.seen.book c.compare_exchange.new.seen.book log c.compare_exchange.ensures.0)
