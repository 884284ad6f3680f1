use Rattle.std.proofs.Common.{◌≡◌, map, take, string_bytes}
use Rattle.log4rs_config.specs.Routing.{places}
use Rattle.log4rs_config.proofs.routes.places_of.Given as goal

-- the places of the names so far
abbrev pub invariant-loop-name : goal.invariant-loop-name
invariant-loop-name g l = l.found.items ≡ places (map g.A.Named.name l.appenders) (map (λ s. string_bytes s) (take l.name-index l.wanted))
