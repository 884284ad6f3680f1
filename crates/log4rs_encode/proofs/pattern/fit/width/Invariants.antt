use Rattle.std.proofs.Common.{◌≡◌, ◌+◌}
use Rattle.log4rs_encode.specs.Fit.{cells, width}
use Rattle.log4rs_encode.proofs.pattern.fit.width.Given as goal

abbrev pub invariant-loop-run : goal.invariant-loop-run
invariant-loop-run l = l.width + width (cells l.run-iterator) ≡ width (cells l.styled)
