use Rattle.std.proofs.Common.{◌≡◌, ℕ, ◌≤◌, ◌<◌, ◌-◌, get_or}
use Rattle.log4rs_config.specs.Name.{colon}
use Rattle.log4rs_config.proofs.order.colons.Given as goal

-- colons stand from there on
abbrev pub invariant-loop-begin : goal.invariant-loop-begin
invariant-loop-begin l = (l.fn.from ≤ l.begin) × (l.begin ≤ l.fn.end) × ((i : ℕ) → l.begin ≤ i → i < l.fn.end → get_or l.name i 0 ≡ colon)

abbrev pub decreases-loop-begin : goal.decreases-loop-begin
decreases-loop-begin l = l.begin - l.from
