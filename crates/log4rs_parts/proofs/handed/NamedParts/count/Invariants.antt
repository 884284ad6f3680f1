use Rattle.std.proofs.Common.{◌≡◌, ◌≤◌, map, take}
use Rattle.log4rs_parts.specs.NamedParts.{count_for, entry}
use Rattle.log4rs_parts.proofs.handed.NamedParts.count.Given as goal

abbrev pub invariant-loop-named : goal.invariant-loop-named
invariant-loop-named g l = (l.count ≤ l.named-index) × (l.count ≡ count_for l.appender (map entry (take l.named-index l.named-items)))
