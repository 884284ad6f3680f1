use Rattle.std.proofs.Common.{◌≡◌, ℕ, ◌≤◌, ◌<◌, ◌-◌, length, get_or}
use Rattle.log4rs_config.proofs.order.same_to.Given as goal

-- so far the bytes are the same
abbrev pub invariant-loop-at : goal.invariant-loop-at
invariant-loop-at l = (l.fn.from ≤ l.at) × (l.at ≤ length l.name) × (l.at ≤ length l.target) × (l.at ≤ l.end) × ((i : ℕ) → l.fn.from ≤ i → i < l.at → get_or l.name i 0 ≡ get_or l.target i 0)

abbrev pub decreases-loop-at : goal.decreases-loop-at
decreases-loop-at l = length l.name - l.at

abbrev pub invariant-loop-at-2 : goal.invariant-loop-at-2
invariant-loop-at-2 l = (l.fn.from ≤ l.at) × (l.at ≤ length l.name) × (l.at ≤ length l.target) × (l.at ≤ l.end) × ((i : ℕ) → l.fn.from ≤ i → i < l.at → get_or l.name i 0 ≡ get_or l.target i 0)

abbrev pub decreases-loop-at-2 : goal.decreases-loop-at-2
decreases-loop-at-2 l = length l.name - l.at
