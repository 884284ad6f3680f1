use Rattle.std.proofs.Common.{◌≡◌, ◌≤◌, ◌-◌, length, map, take, None}
use Rattle.log4rs_config.specs.Above.{parents}
use Rattle.log4rs_config.specs.Name.{components}
use Rattle.log4rs_config.specs.Walk.{longest, name_at}
use Rattle.log4rs_config.proofs.search.above_of.Given as goal

-- what governs above the entries so far
abbrev pub invariant-loop-above : goal.invariant-loop-above
invariant-loop-above g l =
    (length l.above.items ≤ length l.entries)
    × (l.above.items ≡ map (λ e. longest (name_at (map g.T.Keyed.key l.entries)) None (parents (components (g.T.Keyed.key e)))) (take (length l.above.items) l.entries))

abbrev pub decreases-loop-above : goal.decreases-loop-above
decreases-loop-above g l = length l.entries - length l.above.items
