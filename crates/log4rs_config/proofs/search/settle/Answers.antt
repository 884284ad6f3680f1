use Rattle.std.proofs.Common.{subst, drop}
use Rattle.std.specs.Prelude.{Option, IfSome}
use Rattle.log4rs_config.specs.declared.order.Standing.{Standing}
use Rattle.log4rs_config.specs.Standing.{tokens, next, Stands}
use Rattle.log4rs_config.proofs.Standings.{standing-order}
use Rattle.log4rs_config.proofs.search.settle.Goals as goal

pub returns-in-Some-clause-order : goal.returns-in-Some-clause-order
returns-in-Some-clause-order c =
    let name = c.args.name.now in
    let target = c.args.target.now in
    standing-order name target c.args.from c.in-Some.standing c.requires.0
    (subst (λ (told : Option Standing). IfSome told (λ standing. Stands standing (next (tokens (drop c.args.from name))) (next (tokens (drop c.args.from target))))) c.in-Some.is c.requires.1)
