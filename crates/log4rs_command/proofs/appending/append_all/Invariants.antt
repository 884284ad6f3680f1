use Rattle.log4rs_command.specs.Appended.{AreReceiptsBy}
use Rattle.log4rs_command.proofs.appending.append_all.Given as goal

abbrev pub invariant-loop-number : goal.invariant-loop-number
invariant-loop-number g l = AreReceiptsBy l.journal l.thread l.number l.receipts.items
