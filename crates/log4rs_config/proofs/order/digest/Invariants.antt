use Rattle.std.proofs.Common.{◌≡◌, ◌≤◌, ◌+◌, ◌-◌, ◌*◌, ◌^◌, drop, length}
use Rattle.log4rs_config.specs.Digests.{digest_of}
use Rattle.log4rs_config.specs.Standing.{tokens}
use Rattle.log4rs_config.proofs.order.digest.Given as goal

-- the number so far, and what is still to come
abbrev pub invariant-loop : goal.invariant-loop
invariant-loop l = (l.at ≤ length l.name) × (l.value * 512 ^ (6 - l.counter) + digest_of (6 - l.counter) (tokens (drop l.at l.name)) ≡ digest_of 6 (tokens l.name))
