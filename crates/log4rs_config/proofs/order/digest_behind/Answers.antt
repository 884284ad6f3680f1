use Rattle.std.proofs.Common.{arith}
use Rattle.log4rs_config.proofs.Alike.{all-bytes}
use Rattle.log4rs_config.proofs.order.digest_behind.Goals as goal

pub returns-clause-bytes : goal.returns-clause-bytes
returns-clause-bytes c = all-bytes c.args.name.now (λ i. let f = c.type_inv.name i in omega (arith, f))
