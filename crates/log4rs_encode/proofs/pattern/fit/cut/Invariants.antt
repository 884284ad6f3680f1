use Rattle.std.proofs.Common.{◌≡◌, ◌++◌}
use Rattle.log4rs_encode.specs.Runs.{join}
use Rattle.log4rs_encode.specs.Fit.{cells, runs_of_cells, cut}
use Rattle.log4rs_encode.proofs.pattern.fit.cut.Given as goal

abbrev pub invariant-loop-run : goal.invariant-loop-run
invariant-loop-run l =
    join (l.kept ++ runs_of_cells (cut l.window.skip l.window.keep (cells l.run-iterator)))
    ≡ join (runs_of_cells (cut l.fn.skip l.fn.keep (cells l.contents)))
