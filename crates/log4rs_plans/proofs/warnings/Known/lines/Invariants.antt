use Rattle.std.proofs.Common.{◌≡◌, length}
use Rattle.log4rs_plans.proofs.warnings.Known.lines.Given as goal

abbrev pub invariant-loop-warning : goal.invariant-loop-warning
invariant-loop-warning l = length l.lines.items ≡ l.warning-index
