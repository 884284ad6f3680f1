use Rattle.std.proofs.Common.{◌≡◌, Ok, map}
use Rattle.log4rs.proofs.program.gathered.Given as goal

abbrev pub invariant-loop-result : goal.invariant-loop-result
invariant-loop-result g l = map Ok l.answers.items ≡ l.yielded
