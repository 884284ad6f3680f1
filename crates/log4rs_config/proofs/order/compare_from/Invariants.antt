use Rattle.std.proofs.Common.{◌-◌, length}
use Rattle.log4rs_config.specs.Standing.{AreShared}
use Rattle.log4rs_config.proofs.order.compare_from.Given as goal

-- so much is shared
abbrev pub invariant-loop-from : goal.invariant-loop-from
invariant-loop-from l = AreShared l.name l.target l.bytes

abbrev pub decreases-loop-from : goal.decreases-loop-from
decreases-loop-from l = length l.name - l.bytes
