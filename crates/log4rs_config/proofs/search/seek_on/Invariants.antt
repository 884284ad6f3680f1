use Rattle.std.proofs.Common.{ℕ, ◌<◌, ◌+◌, ◌-◌, ◌^◌, length, map}
use Rattle.log4rs_config.specs.Seeks.{CanHalve, Seeks}
use Rattle.log4rs_config.proofs.search.seek_on.Given as goal

-- the target's place lies behind the front and before `high`, and comparisons are left for what is between them
abbrev pub invariant-loop-high : goal.invariant-loop-high
invariant-loop-high g l =
    Seeks (map g.T.Keyed.key l.looked.entries.now) l.target (length l.looked.digests.now.common.items) l.front.end l.high l.left l.right l.told
    × ((digits : ℕ) → l.initial.high - l.initial.front.end < 2 ^ digits → CanHalve (l.high - l.front.end) l.turns (l.fn.turns + digits))

abbrev pub decreases-loop-high : goal.decreases-loop-high
decreases-loop-high g l = l.high - l.front.end
