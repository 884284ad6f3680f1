use Rattle.std.proofs.Common.{◌≡◌, map, drop}
use Rattle.log4rs_base.specs.DateFormat.{found_at}
use Rattle.log4rs_base.specs.FoundView.{named_entry}
use Rattle.log4rs_base.proofs.dates.format.found_in.Given as goal

abbrev pub invariant-loop-entry : goal.invariant-loop-entry
invariant-loop-entry l = found_at (map named_entry l.names) l.text ≡ found_at (map named_entry (drop l.entry-index l.names)) l.text
