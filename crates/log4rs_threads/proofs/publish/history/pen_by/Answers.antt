use Rattle.std.proofs.Common.{◌∙◌, sym, ap}
use Rattle.log4rs_threads.proofs.Adding.{gives_moves}
use Rattle.log4rs_threads.proofs.publish.history.pen_by.Goals as goal

pub compare_exchange-requires : goal.compare_exchange-requires
compare_exchange-requires g c =
    let head = c.requires in
    let offer = c.plain-offer.ensures in
    let pen = c.no_pen-pen.ensures in
    let book = ap (λ s. s.book) c.again-seen.ensures ∙ sym (ap (λ w. w.book) head) in (
      ap (λ w. w.tracked) head,
      book,
      pen.0 ∙ book,
      offer.0,
      rw (ap (λ w. w.key) head, pen.1, offer.3) (gives_moves c.again-seen.result.log c.plain-offer.result.ask),
    )
