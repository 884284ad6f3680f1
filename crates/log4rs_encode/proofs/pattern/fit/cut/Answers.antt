use Rattle.log4rs_encode.specs.Fit.{cells, runs_of_cells, cut}
use Rattle.log4rs_encode.proofs.Cells.{cut_end}
use Rattle.log4rs_encode.proofs.pattern.fit.cut.Goals as goal

pub returns : goal.returns
returns c =
    cut_end c.loop-run.kept (runs_of_cells (cut c.args.skip c.args.keep (cells c.args.contents.now))) c.loop-run.run-iterator c.loop-run.window.skip c.loop-run.window.keep
    c.in-None.ensures.steps.0 c.loop-run.invariant c.runs-joined.ensures.joined
