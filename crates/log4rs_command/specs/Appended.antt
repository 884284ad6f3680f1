-- The receipts of what threads appended.
use Rattle.std.specs.Prelude.{◌≡◌, ℕ, ◌<◌, List, length, slice_index_or, string_bytes}
use Rattle.std.specs.Fmt.{decimal}
use Rattle.log4rs_journal.specs.Receipts.{Journal, IsReceiptOf, logged_of}
use Rattle.log4rs_journal.specs.declared.receipt.Receipt.{Receipt}
use Rattle.log4rs_command.specs.ThreadRecords.{target_of}

-- a receipt of this journal, for the record that a thread appended under a number
pub record IsReceiptBy (journal : Journal) (thread number : ℕ) (receipt : Receipt) : Type 0 where
  pub own : IsReceiptOf journal receipt
  pub target : string_bytes (logged_of receipt).target ≡ target_of thread
  pub message : string_bytes (logged_of receipt).message ≡ decimal number

-- all receipts of a thread, by the numbers of its records
pub record AreReceiptsBy
    (journal : Journal) (thread count : ℕ) (receipts : List Receipt) : Type 0 where
  pub len : length receipts ≡ count
  pub each : (number : ℕ) (d : Receipt) → number < count
      → IsReceiptBy journal thread number (slice_index_or receipts number d)
