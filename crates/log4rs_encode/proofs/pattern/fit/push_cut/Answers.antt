use Rattle.std.proofs.Common.{List, ◌∷◌, ◌++◌, [], ap, sym, ◌∙◌, arith}
use Rattle.std.proofs.lemmas.Result.{on_ok_weaker}
use Rattle.log4rs_encode.specs.Fit.{Cell, cells, runs_of_cells}
use Rattle.log4rs_encode.specs.Runs.{text, join}
use Rattle.log4rs_encode.proofs.Cells.{kept_all, kept_first, kept_last}
use Rattle.log4rs_encode.proofs.Fitted.{uncut}
use Rattle.log4rs_encode.proofs.pattern.fit.push_cut.Goals as goal

pub returns-then-width-greatest : goal.returns-then-width-greatest
returns-then-width-greatest c =
    let t = c.args.text.now in
    let ps = c.args.parameters.now in
    on_ok_weaker c.push_text.result (λ e. uncut c.args.out.now c.push_text.new.self t c.utf8.text e
    ∙ ap (λ (cs : List Cell). join (c.args.out.now ++ runs_of_cells cs)) (sym (kept_all ps.right_truncate ps.max_width (cells (text t ∷ [])) c.args.width
    c.unwrap_or-greatest.result c.requires c.unwrap_or-greatest.ensures (omega arith)))) c.push_text.ensures.ok

pub returns-then-parameters : goal.returns-then-parameters
returns-then-parameters c =
    let t = c.args.text.now in
    let ps = c.args.parameters.now in
    on_ok_weaker c.push_window.result (λ e. e
    ∙ ap (λ (cs : List Cell). join (c.args.out.now ++ runs_of_cells cs)) (kept_first ps.right_truncate ps.max_width (cells (text t ∷ [])) c.args.width
    c.unwrap_or-greatest.result c.requires c.unwrap_or-greatest.ensures (omega arith) c.if-parameters.true)) c.push_window.ensures

pub returns : goal.returns
returns c =
    let t = c.args.text.now in
    let ps = c.args.parameters.now in
    on_ok_weaker c.push_window-2.result (λ e. e
    ∙ ap (λ (cs : List Cell). join (c.args.out.now ++ runs_of_cells cs)) (kept_last ps.right_truncate ps.max_width (cells (text t ∷ [])) c.args.width
    c.unwrap_or-greatest.result c.requires c.unwrap_or-greatest.ensures (omega arith) c.if-parameters.false)) c.push_window-2.ensures
