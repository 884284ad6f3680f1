use Rattle.std.proofs.Common.{◌≡◌, ℕ, ◌<◌, ◌≤◌, ◌+◌, ◌*◌, ◌^◌, length, map, take, None}
use Rattle.log4rs_config.specs.Name.{components}
use Rattle.log4rs_config.specs.Walk.{longest, name_at}
use Rattle.log4rs_config.proofs.search.nearest.Given as goal

-- a beginning of the target decides, and for each of its components comparisons are left
abbrev pub invariant-loop-place : goal.invariant-loop-place
invariant-loop-place g l =
    (l.end ≤ length l.target)
    × (longest (name_at (map g.T.Keyed.key l.looked.entries.now)) None (components l.target) ≡ longest (name_at (map g.T.Keyed.key l.looked.entries.now)) None (components (take l.end l.target)))
    × ((digits : ℕ) → length l.looked.entries.now < 2 ^ digits → l.turns + length (components (take l.end l.target)) * digits ≤ l.fn.turns + length (components l.target) * digits)

abbrev pub decreases-loop-place : goal.decreases-loop-place
decreases-loop-place g l = l.end
