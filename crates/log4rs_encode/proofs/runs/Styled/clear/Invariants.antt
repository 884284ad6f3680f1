use Rattle.std.proofs.Common.{length}
use Rattle.log4rs_encode.proofs.runs.Styled.clear.Given as goal

abbrev pub decreases-loop-styling : goal.decreases-loop-styling
decreases-loop-styling l = length l.self-inside.styles.items
