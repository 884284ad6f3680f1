use Rattle.std.proofs.Common.{◌∙◌, sym, ap, subst, List}
use mathlib.Core.List.{IsPrefix}
use Rattle.log4rs_threads.proofs.Beginnings.{published_more}
use Rattle.log4rs_threads.proofs.Adding.{finds_moves}
use Rattle.log4rs_threads.proofs.publish.history.History.confirm.Goals as goal

pub compare_exchange-requires : goal.compare_exchange-requires
compare_exchange-requires g c =
    let i = c.self.invariant in
    let offer = c.plain-offer.ensures in
    let all = c.again-all.ensures in
    let book = c.learn.ensures.0 ∙ (ap (λ s. s.book) all ∙ sym (ap (λ w. w.book) i.1)) in (
      ap (λ w. w.tracked) i.1,
      book,
      i.2 ∙ sym (ap (λ w. w.book) i.1),
      offer.0,
      rw (ap (λ w. w.key) i.1, offer.3) (finds_moves c.learn.new.self.log c.plain-offer.result.ask c.self.inside.pen.nib),
    )

pub returns-clause-begins : goal.returns-clause-begins
returns-clause-begins g c =
    let i = c.self.invariant in
    let all = c.learn.new.self.log in
    let this : IsPrefix c.self.inside.seen.log all = subst (λ (l : List _). IsPrefix l all) (ap (λ s. s.log) c.again-all.ensures) c.learn.ensures.2 in
    let found = c.compare_exchange.ensures.7.1 i.3 c.self.inside.seen.log this i.4 in
    let told : IsPrefix c.told.inside.seen.log c.self.inside.seen.log = subst (λ (l : List _). IsPrefix c.told.inside.seen.log l) found c.learn.ensures.3 in
    rw (← c.self.view_is, ← c.told.view_is) (published_more c.told.inside.seen.log c.self.inside.seen.log told)
