use Rattle.std.proofs.Common.{◌≡◌, ◌-◌, length, drop}
use Rattle.log4rs_config.specs.Name.{has_paired_colons}
use Rattle.log4rs_config.proofs.name.is_valid_logger_name.Given as goal

-- the bytes that are left decide
abbrev pub invariant-loop-i : goal.invariant-loop-i
invariant-loop-i l = has_paired_colons l.bytes ≡ has_paired_colons (drop l.i l.bytes)

abbrev pub decreases-loop-i : goal.decreases-loop-i
decreases-loop-i l = length l.bytes - l.i
