use Rattle.std.proofs.Common.{◌≡◌, List, ◌++◌, map, true}
use Rattle.unicode_segmentation.specs.Grapheme.{graphemes}
use Rattle.unicode_segmentation.specs.Iter.{graphemes_left}
use Rattle.log4rs_encode.specs.Runs.{join}
use Rattle.log4rs_encode.specs.Fit.{Cell, cluster, runs_of_cells, cut}
use Rattle.log4rs_encode.proofs.pattern.fit.Window.text.Given as goal

abbrev pub invariant-loop-piece : goal.invariant-loop-piece
invariant-loop-piece l =
    (cs : List Cell) → join (l.kept ++ runs_of_cells (cut l.self.skip l.self.keep (map cluster (graphemes_left l.piece-iterator) ++ cs)))
    ≡ join (l.fn.kept ++ runs_of_cells (cut l.fn.self.skip l.fn.self.keep (map cluster (graphemes true l.fn.text) ++ cs)))
