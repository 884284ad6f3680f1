use Rattle.std.proofs.Common.{◌∙◌, sym, ap}
use Rattle.log4rs_threads.proofs.Adding.{begins_moves, kept_first}
use Rattle.log4rs_threads.proofs.publish.history.opened.Goals as goal

pub compare_exchange-found-requires : goal.compare_exchange-found-requires
compare_exchange-found-requires g c =
    let word = c.tracked-begun.ensures.0 in
    let made = c.open-seen.ensures in
    let offer = c.plain-offer.ensures in
    let pen = c.no_pen-none.ensures in
    let book = sym (ap (λ w. w.book) word ∙ made.3) in (
      ap (λ w. w.tracked) word,
      book,
      pen.0 ∙ book,
      offer.0,
      rw (ap (λ w. w.key) word, ap (λ n. n.key) made.5, pen.1, offer.3) (begins_moves c.open-seen.result.0.log c.plain-offer.result.ask),
    )

pub open-seen-requires : goal.open-seen-requires
open-seen-requires g c = (kept_first, λ _. tt, c.alone.ensures.1)
