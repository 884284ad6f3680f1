use Rattle.std.proofs.Common.{◌≡◌, ◌≤◌, All, Contains, map, take, length}
use Rattle.log4rs_config.specs.Name.{components}
use Rattle.log4rs_config.specs.Order.{Rise}
use Rattle.log4rs_config.proofs.routes.risen.Given as goal

-- those that are kept rise, and are all so far where all rise
abbrev pub invariant-loop-one : goal.invariant-loop-one
invariant-loop-one l =
    Rise (map (λ n. components n.logger.now.name) l.kept.items)
    × (Rise (map (λ n. components n.logger.now.name) l.sorted) → l.kept.items ≡ take l.one-index l.sorted)
    × All (λ n. Contains l.sorted n) l.kept.items
    × (length l.kept.items ≤ l.one-index)
