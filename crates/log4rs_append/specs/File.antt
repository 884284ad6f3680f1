-- File appenders in contracts.
use Rattle.std.specs.Prelude.{◌≡◌, ℕ, List, [], Option, Some, None, is_some, string_bytes}
use Rattle.std.specs.Prelude.{if◌then◌else◌}
use Rattle.log4rs_rolling.specs.Change.{bytes_at}
use Rattle.log4rs_rolling.specs.Disk.{Disk, files_of}
use Rattle.log4rs_rolling.specs.declared.store.Store as Store
use Rattle.log4rs_rolling.specs.declared.store.Open.{Open}
use Rattle.log4rs_rolling.specs.declared.store.Open.TheVariants.{Append, Truncate}
use Rattle.log4rs_base.specs.declared.record.Record.{Record}
use Rattle.log4rs_base.specs.declared.record.Context.{Context}
use Rattle.log4rs_rolling.specs.FileChanges.{way}
use Rattle.log4rs_encode.specs.Runs.{Run}
use Rattle.log4rs_append.specs.Sink.{Sink, plain_reading, bytes_of}
use Rattle.log4rs_append.specs.declared.file.FileAppender.{FileAppender}
use Rattle.log4rs_append.specs.declared.file.builder.FileAppenderBuilder.{FileAppenderBuilder}

-- the bytes of the file of a path, where the store tells its files
abbrev pub path_bytes : List ℕ → Disk → Option (List ℕ)
path_bytes path disk = if disk.tells then Some (bytes_at (files_of disk) path) else None

-- the sink of a file appender: the bytes of the file of its path
abbrev pub file_sink : Option (Record → Context → List Run) → List ℕ → Disk → Sink
file_sink rendering path disk =
    record {
      texts = bytes_of (plain_reading rendering) (path_bytes path disk);
      is_built_in = is_some rendering;
      refusals = disk.refusals;
      rolled = None;
      plain = Some (record { path = path; reading = plain_reading rendering; disk = disk });
    }

-- the store that has the file open
abbrev pub store_of : {S E : Type 0} {store : Store.Ghosts S} → FileAppender S E store → S
store_of a = a.store

-- the bytes of its path
abbrev pub path_of : {S E : Type 0} {store : Store.Ghosts S} → FileAppender S E store → List ℕ
path_of a = string_bytes a.path

abbrev pub encoder_of : {S E : Type 0} {store : Store.Ghosts S} → FileAppender S E store → E
encoder_of a = a.encoder

-- the same file, with the same encoder
abbrev pub IsSameFile : {S E : Type 0} {store : Store.Ghosts S}
    → FileAppender S E store → FileAppender S E store → Type 0
IsSameFile before now =
    (path_of now ≡ path_of before) × (encoder_of now ≡ encoder_of before)

-- the settings of the builder
abbrev pub maker_of : {M : Type 0} → FileAppenderBuilder M → M
maker_of b = b.encoder

abbrev pub way_of : {M : Type 0} → FileAppenderBuilder M → Open
way_of b = way b.append

-- what of a file's bytes stays at its opening
abbrev pub kept : Open → List ℕ → List ℕ
kept Append bytes = bytes
kept Truncate bytes = []

-- what the file of a path holds once it is opened, where the store tells its files
abbrev pub begun : Open → List ℕ → Disk → Option (List ℕ)
begun how path disk = if disk.tells then Some (kept how (bytes_at (files_of disk) path)) else None
