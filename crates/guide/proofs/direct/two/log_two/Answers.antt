use Rattle.std.proofs.Common.{◌≡◌, true, is_ok, sym, ap, ◌∙◌}
use Rattle.std.specs.List.{list_all}
use Rattle.guide.proofs.TwoLemmas.{whole}
use Rattle.guide.proofs.direct.two.log_two.Goals as goal

pub returns-then-are_ok : goal.returns-then-are_ok
returns-then-are_ok g c =
    let all : list_all is_ok c.in_ok-answers.answers.items ≡ true =
    ap (λ xs. list_all is_ok xs) (sym c.deref.ensures.value) ∙ (sym c.are_ok.ensures ∙ c.if-are_ok.true) in
    whole _ _ _ _ c.entry-first.result c.entry-second.result
    (c.in_ok-core.ensures.settings ∙ c.in_ok-config.ensures.settings)
    (λ r. c.in_ok-core.ensures.admits r ∙ c.in_ok-config.ensures.admits r)
    (c.in_ok-core.ensures.sinks ∙ c.in_ok-config.ensures.sinks)
    c.entry-first.ensures.level (c.entry-first.ensures.target ∙ c.in_ok-target.ensures) (c.entry-first.ensures.message ∙ c.in_ok-message.ensures)
    c.entry-second.ensures.level (c.entry-second.ensures.target ∙ c.in_ok-target-2.ensures) (c.entry-second.ensures.message ∙ c.in_ok-message-2.ensures)
    c.line_renders.ensures
    (c.in_ok-answers.ensures.received all)
