use Rattle.std.proofs.Common.{◌<◌, length, map}
use Rattle.log4rs_config.proofs.Fronts.{Climbs}
use Rattle.log4rs_config.proofs.search.climb.Given as goal

-- the name at the place has the components that govern the target
abbrev pub invariant-loop : goal.invariant-loop
invariant-loop g l = (l.at < length l.looked.entries.now) × Climbs (map g.T.Keyed.key l.looked.entries.now) l.target l.shared l.at
