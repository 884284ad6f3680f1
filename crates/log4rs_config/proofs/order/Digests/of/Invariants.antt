use Rattle.std.proofs.Common.{◌≡◌, length, map, take}
use Rattle.log4rs_config.proofs.Alike.{AreDigested}
use Rattle.log4rs_config.proofs.order.Digests.of.Given as goal

-- the numbers and the lengths of the names so far
abbrev pub invariant-loop-entry : goal.invariant-loop-entry
invariant-loop-entry g l =
    AreDigested g.T.Keyed.key l.entries (length l.start) l.entry-index l.values.items
    × (l.lengths.items ≡ map (λ name. length name) (map g.T.Keyed.key (take l.entry-index l.entries)))
