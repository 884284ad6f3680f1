use Rattle.std.proofs.Common.{◌≡◌, ◌∷◌, [], ap, ◌∙◌}
use Rattle.std.proofs.lemmas.Result.{on_ok_weaker}
use Rattle.log4rs_encode.specs.Fit.{cells}
use Rattle.log4rs_encode.specs.Runs.{text}
use Rattle.log4rs_encode.proofs.Fitted.{missing_of, missing_at, fitted_left, fitted_right}
use Rattle.log4rs_encode.proofs.pattern.fit.push_fitted.Goals as goal

pub returns-in_ok-push_cut-in-Left : goal.returns-in_ok-push_cut-in-Left
returns-in_ok-push_cut-in-Left c =
    let t = c.args.text.now in
    let ps = c.args.parameters.now in
    let count : c.missing-missing.result ≡ missing_of ps (cells (text t ∷ [])) = c.missing-missing.ensures ∙ ap (missing_at ps) c.text_width-width.ensures in
    on_ok_weaker c.push_fill.result (λ e. fitted_left ps t c.args.out.now c.push_cut.new.out c.push_fill.new.out c.missing-missing.result c.in-Left.is count
    c.in_ok-push_cut-in-Left.ensures e) c.push_fill.ensures

pub returns-in_ok-push_fill-in-Right : goal.returns-in_ok-push_fill-in-Right
returns-in_ok-push_fill-in-Right c =
    let t = c.args.text.now in
    let ps = c.args.parameters.now in
    let count : c.missing-missing.result ≡ missing_of ps (cells (text t ∷ [])) = c.missing-missing.ensures ∙ ap (missing_at ps) c.text_width-width.ensures in
    on_ok_weaker c.push_cut-in-Right.result (λ e. fitted_right ps t c.args.out.now c.push_fill-in-Right.new.out c.push_cut-in-Right.new.out c.missing-missing.result c.in-Right.is count
    c.in_ok-push_fill-in-Right.ensures e) c.push_cut-in-Right.ensures
