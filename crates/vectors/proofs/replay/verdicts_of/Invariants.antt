use Rattle.std.proofs.Common.{◌≡◌, length}
use Rattle.vectors.proofs.replay.verdicts_of.Given as goal

abbrev pub invariant-loop-line : goal.invariant-loop-line
invariant-loop-line l = length l.verdicts.items ≡ l.line-index
