use Rattle.std.proofs.Common.{◌≡◌, ap, ◌∙◌}
use Rattle.std.proofs.lemmas.Result.{IfOk-weaker}
use Rattle.log4rs_encode.specs.Fit.{fit, cells}
use Rattle.log4rs_encode.proofs.Cells.{fit_padded}
use Rattle.log4rs_encode.proofs.Fitted.{missing_of, missing_at}
use Rattle.log4rs_encode.proofs.pattern.fit.fit.Goals as goal

pub returns : goal.returns
returns c =
    let ps = c.args.parameters.now in
    let count : c.missing.result ≡ missing_of ps (cells c.args.contents) = c.missing.ensures ∙ ap (missing_at ps) c.in_ok-width.ensures.width in
    IfOk-weaker c.pad.result _ (λ fitted. fitted ≡ fit ps c.args.contents)
    (λ x e. e ∙ fit_padded ps c.args.contents c.in_ok-kept.kept c.missing.result c.in_ok-kept.ensures count) c.pad.ensures
