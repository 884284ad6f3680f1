-- The knowledge of a log file about the store.
use Rattle.std.specs.Prelude.{◌≡◌, ℕ, ◌+◌, ◌^◌, ◌-◌, Bool, true, false, List, min, length}
use Rattle.std.specs.Prelude.{IsTrue, IsSome, Some, None, string_bytes, if◌then◌else◌}
use Rattle.log4rs_rolling.specs.Change.{bytes_at}
use Rattle.log4rs_rolling.specs.Disk.{Disk, files_of}
use Rattle.log4rs_rolling.specs.declared.log_file.LogFile.{LogFile}

-- the bytes of the path
abbrev pub log_path : LogFile → List ℕ
log_path log = string_bytes log.path

-- the length that is known, an estimate
abbrev pub log_len : LogFile → ℕ
log_len log = log.len

-- whether the store has the file open
abbrev pub is_open : LogFile → Bool
is_open log = log.is_open

-- an estimate of a length: at its greatest value it stays
abbrev pub estimate : ℕ → ℕ
estimate n = min n (2 ^ 64 - 1)

-- the same file, open, with this length
abbrev pub opened_at : LogFile → ℕ → LogFile
opened_at log n = record log { len = n; is_open = true }

-- the same file, with so many bytes more
abbrev pub grown : LogFile → ℕ → LogFile
grown log n = record log { len = estimate (log.len + n) }

-- the log file knows whether it is open, and how long it is then; an open file is there
pub record Agrees (log : LogFile) (disk : Disk) : Type 0 where
  pub opened : IsTrue disk.tells → disk.opened ≡ (if is_open log then Some (log_path log) else None)
  pub len : IsTrue disk.tells
      → IsTrue (is_open log)
      → log_len log ≡ estimate (length (bytes_at (files_of disk) (log_path log)))
  pub present : IsTrue disk.tells → IsTrue (is_open log) → IsSome (files_of disk (log_path log))

-- no file is open, and the log file knows it
abbrev pub IsClosed : LogFile → Disk → Type 0
IsClosed log disk = (is_open log ≡ false) × (IsTrue disk.tells → disk.opened ≡ None)

-- a file was opened, and this is its length
abbrev pub IsOpenAt : List ℕ → ℕ → Disk → Disk → Type 0
IsOpenAt path n old new =
    IsTrue old.tells
    → (new.opened ≡ Some path) × (n ≡ estimate (length (bytes_at (files_of new) path)))

-- it is the same file, which still knows of the store what it knew before
pub record StaysKnown (before now : LogFile) (old new : Disk) : Type 0 where
  pub agrees : Agrees before old → Agrees now new
  pub path : log_path now ≡ log_path before
