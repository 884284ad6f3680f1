-- What clauses see of a journal and of its receipts.
use Rattle.std.specs.Prelude.{ℕ, List}
use Rattle.boxcar.specs.Table.{Shelves, Shows}
use Rattle.log4rs_base.specs.Text.{Text}
use Rattle.log4rs_base.specs.declared.record.Context.{Context}
use Rattle.log4rs_base.specs.declared.record.Record.{Record}
use Rattle.log4rs_journal.specs.Notes.{text_in, entry_in}
use Rattle.log4rs_journal.specs.declared.receipt.Receipt.{Receipt}

-- a journal is seen as the shelves that its texts stand on, which bear its pattern as their tag
abbrev pub Journal : Type 0
Journal = Shelves

-- the characters of its pattern
abbrev pub pattern_of : Journal → List ℕ
pattern_of journal = journal.tag

-- the receipt is of this journal
abbrev pub IsReceiptOf : Journal → Receipt → Type 0
IsReceiptOf journal receipt = Shows journal receipt.token

-- where the record stands in its journal
abbrev pub place_of : Receipt → ℕ
place_of receipt = receipt.token.index

-- the text that stands there
abbrev pub text_of : Receipt → Text
text_of receipt = text_in receipt.token.value

-- the record and the context that were appended
abbrev pub logged_of : Receipt → Record
logged_of receipt = (entry_in receipt.token.value).logged

abbrev pub context_of : Receipt → Context
context_of receipt = (entry_in receipt.token.value).context
