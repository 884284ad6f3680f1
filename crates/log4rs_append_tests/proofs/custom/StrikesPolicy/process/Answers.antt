use Rattle.std.proofs.Common.{rules, None, refl}
use Rattle.log4rs_rolling.proofs.Calls.{calls_none}
use Rattle.log4rs_rolling.proofs.Costing.{makes_none}
use Rattle.log4rs_append_tests.proofs.custom.StrikesPolicy.process.Goals as goal

pub returns-in-None-clause-asked : goal.returns-in-None-clause-asked
returns-in-None-clause-asked g c = (None, (λ told. (tt, search rules)), tt, (refl, calls_none _ _ refl, refl, (λ tells. refl), makes_none 0 _))
