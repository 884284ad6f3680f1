use Rattle.std.proofs.Common.{length, take}
use Rattle.log4rs_config.specs.Name.{components}
use Rattle.log4rs_config.proofs.Components.{one-left}
use Rattle.log4rs_config.proofs.Seeking.{one_search}
use Rattle.log4rs_config.proofs.search.nearest.Goals as goal

pub returns-in-Ok-clause-turns : goal.returns-in-Ok-clause-turns
returns-in-Ok-clause-turns g c digits few =
    one_search _ c.loop-place.turns _ (length (components (take c.loop-place.end c.args.target.now))) _ digits (c.seek.ensures.turns digits few)
    (one-left (take c.loop-place.end c.args.target.now)) (c.loop-place.invariant.2 digits few)
