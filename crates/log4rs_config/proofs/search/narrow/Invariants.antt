use Rattle.std.proofs.Common.{◌≡◌, ℕ, ◌<◌, ◌≤◌, ◌+◌, ◌-◌, ◌^◌, length, slice_get, Some}
use Rattle.log4rs_config.specs.Seeks.{CanHalve}
use Rattle.log4rs_config.proofs.search.narrow.Given as goal

-- the wanted digest stands behind the front and before `high`, and comparisons are left for what is between them
abbrev pub invariant-loop-high : goal.invariant-loop-high
invariant-loop-high g l =
    (l.front.end ≤ l.high)
    × (l.high ≤ length l.looked.entries.now)
    × ((value : ℕ) → 0 < l.front.end → slice_get l.looked.digests.now.values.items (l.front.end - 1) ≡ Some value → value < l.wanted)
    × ((value : ℕ) → slice_get l.looked.digests.now.values.items l.high ≡ Some value → l.wanted < value)
    × ((digits : ℕ) → length l.looked.entries.now < 2 ^ digits → CanHalve (l.high - l.front.end) l.turns (l.fn.turns + digits))

abbrev pub decreases-loop-high : goal.decreases-loop-high
decreases-loop-high g l = l.high - l.front.end
