use Rattle.std.proofs.Common.{◌≡◌, ◌∙◌, true, is_ok, sym, ap}
use Rattle.std.specs.List.{list_all}
use Rattle.guide.proofs.direct.audit.all_are_logged.Goals as goal

pub returns-clause-received : goal.returns-clause-received
returns-clause-received g c well =
    let all : list_all is_ok c.in_ok-answers.answers.items ≡ true =
    ap (λ xs. list_all is_ok xs) (sym c.deref.ensures.value) ∙ (sym c.are_ok.ensures ∙ well) in
    c.in_ok-answers.ensures.received all
