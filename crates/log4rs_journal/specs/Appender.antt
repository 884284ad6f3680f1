-- What clauses see of an appender to a journal.
use Rattle.std.specs.Prelude.{◌≡◌, ◌≢◌, Option, Some, IfSome}
use Rattle.std.specs.Arc.{arc_value}
use Rattle.log4rs_base.specs.declared.record.Context.{Context}
use Rattle.log4rs_base.specs.declared.record.Record.{Record}
use Rattle.log4rs_journal.specs.Receipts.{Journal, IsReceiptOf, place_of, logged_of, context_of}
use Rattle.log4rs_journal.specs.declared.appender.JournalAppender.{JournalAppender}
use Rattle.log4rs_journal.specs.declared.receipt.Receipt.{Receipt}

-- the journal that it appends to
abbrev pub journal_of : {R : Type 0} → JournalAppender R → Journal
journal_of appender = arc_value appender.journal

-- its last receipt, if it has one
abbrev pub last_of : {R : Type 0} → JournalAppender R → Option Receipt
last_of appender = appender.last

-- the last receipt is now one of this record in the journal, at another place than the one before
pub record IsNewest
    (journal : Journal) (before now : Option Receipt)
    (appended : Record) (context : Context) : Type 0 where
  pub receipt : Receipt
  pub last : now ≡ Some receipt
  pub own : IsReceiptOf journal receipt
  pub logged : logged_of receipt ≡ appended
  pub around : context_of receipt ≡ context
  pub elsewhere : IfSome before (λ earlier. place_of receipt ≢ place_of earlier)
