use Rattle.std.proofs.Common.{◌≡◌, ◌≤◌, length, take}
use Rattle.log4rs_config.specs.Standing.{tokens, last_start}
use Rattle.log4rs_config.proofs.order.start_of.Given as goal

-- no component begins behind the place
abbrev pub invariant-loop-end : goal.invariant-loop-end
invariant-loop-end l = (l.end ≤ length l.name) × (last_start 0 0 (tokens l.name) ≡ last_start 0 0 (tokens (take l.end l.name)))

abbrev pub decreases-loop-end : goal.decreases-loop-end
decreases-loop-end l = l.end
