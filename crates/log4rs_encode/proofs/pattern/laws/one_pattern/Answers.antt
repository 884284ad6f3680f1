use Rattle.std.proofs.Common.{length, arith}
use Rattle.log4rs_encode.proofs.Exists.{pattern_exists}
use Rattle.log4rs_encode.proofs.Unique.{pattern_unique}
use Rattle.log4rs_encode.proofs.pattern.laws.one_pattern.Goals as goal

pub returns-clause-some : goal.returns-clause-some
returns-clause-some c cs = pattern_exists (length cs) cs (omega arith)

pub returns-clause-one : goal.returns-clause-one
returns-clause-one c = pattern_unique
