use Rattle.std.proofs.Common.{◌≡◌, arith, ap, sym, ◌∙◌}
use Rattle.std.proofs.lemmas.Result.{IfOk-weaker}
use Rattle.log4rs_encode.specs.Fit.{cells, truncated, runs_of_cells}
use Rattle.log4rs_encode.specs.Runs.{join}
use Rattle.log4rs_encode.proofs.Cells.{kept_all, kept_first, kept_last}
use Rattle.log4rs_encode.proofs.pattern.fit.truncate.Goals as goal

pub returns-then-width-greatest : goal.returns-then-width-greatest
returns-then-width-greatest c =
    sym (ap (λ cs. join (runs_of_cells cs)) (kept_all c.args.parameters.now.right_truncate c.args.parameters.now.max_width (cells c.args.contents) c.args.width c.unwrap_or-greatest.result
    c.requires.width c.unwrap_or-greatest.ensures (omega arith)) ∙ c.requires.whole)

pub returns-then-parameters : goal.returns-then-parameters
returns-then-parameters c = IfOk-weaker c.cut.result _ (λ kept. kept ≡ join (runs_of_cells (truncated c.args.parameters.now.right_truncate c.args.parameters.now.max_width (cells c.args.contents))))
    (λ x e. e ∙ ap (λ cs. join (runs_of_cells cs)) (kept_first c.args.parameters.now.right_truncate c.args.parameters.now.max_width (cells c.args.contents) c.args.width c.unwrap_or-greatest.result
    c.requires.width c.unwrap_or-greatest.ensures (omega arith) c.if-parameters.true)) c.cut.ensures

pub returns : goal.returns
returns c = IfOk-weaker c.cut-2.result _ (λ kept. kept ≡ join (runs_of_cells (truncated c.args.parameters.now.right_truncate c.args.parameters.now.max_width (cells c.args.contents))))
    (λ x e. e ∙ ap (λ cs. join (runs_of_cells cs)) (kept_last c.args.parameters.now.right_truncate c.args.parameters.now.max_width (cells c.args.contents) c.args.width c.unwrap_or-greatest.result
    c.requires.width c.unwrap_or-greatest.ensures (omega arith) c.if-parameters.false)) c.cut-2.ensures
