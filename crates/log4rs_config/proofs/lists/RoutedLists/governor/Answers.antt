use Rattle.std.proofs.Common.{arith}
use Rattle.log4rs_config.specs.Name.{path_of}
use Rattle.log4rs_config.proofs.lists.RoutedLists.governor.Goals as goal

pub returns : goal.returns
returns g c =
    let (accepted, routed) = c.self.invariant in
    record {
      place = rw (c.governor.ensures.place, ← c.self.view_is) (routed.governors accepted (path_of c.args.target.now));
      turns = λ digits few. c.governor.ensures.turns digits (omega (arith, routed.size, rw (← c.self.view_is) at few));
    }
