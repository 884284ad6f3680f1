use Rattle.std.proofs.Common.{[], inr, refl}
use Rattle.log4rs_config.proofs.Holding.{nothing_happened}
use Rattle.log4rs_build.proofs.rereading.RereadingBy+X+S+M+P+R.put_again.Goals as goal

pub returns-in-Err-clause-ends : goal.returns-in-Err-clause-ends
returns-in-Err-clause-ends g c = ([], inr refl, rw c.in-Err.ensures.err (nothing_happened _))
