-- Rolling appenders in contracts.
use Rattle.std.specs.Prelude.{◌≡◌, ℕ, List, [], drop, length, Bool, ◌&&◌, Option, Some, None}
use Rattle.std.specs.Prelude.{if◌then◌else◌, IsTrue, is_some, Result, Ok, Err}
use Rattle.log4rs_base.specs.declared.error.LogError.{LogError}
use Rattle.log4rs_rolling.specs.Change.{written}
use Rattle.log4rs_rolling.specs.Disk.{Disk, Calls}
use Rattle.log4rs_base.specs.declared.record.Record.{Record}
use Rattle.log4rs_base.specs.declared.record.Context.{Context}
use Rattle.log4rs_rolling.specs.LogFile.{is_open, log_path}
use Rattle.log4rs_rolling.specs.declared.log_file.LogFile.{LogFile}
use Rattle.log4rs_encode.specs.Runs.{Run}
use Rattle.log4rs_rolling.specs.Asking.{Kind, is_told}
use Rattle.log4rs_append.specs.RolledFile.{RolledFile}
use Rattle.log4rs_append.specs.Sink.{Sink, plain_reading, bytes_of}
use Rattle.log4rs_append.specs.declared.rolling_file.RollingFileAppender.{RollingFileAppender}
use Rattle.log4rs_append.specs.declared.rolling_file.builder.RollingFileAppenderBuilder.{RollingFileAppenderBuilder}
use Rattle.log4rs_rolling.specs.declared.store.Store as Store
use Rattle.log4rs_rolling.specs.declared.policy.Keep as Keep

-- what was written to a path since an opening, where the store and a built-in policy tell it
abbrev pub since_bytes : Bool → List ℕ → Disk → Disk → Option (List ℕ)
since_bytes built_in path opening now =
    if now.tells && built_in then Some (written path (drop (length opening.changes) now.changes))
    else None

-- the sink of a rolling appender: what was written to its file since the appender was built
abbrev pub rolling_sink : Option (Record → Context → List Run) → RolledFile → Sink
rolling_sink rendering file = record {
  texts = bytes_of (plain_reading rendering)
      (since_bytes file.keeping.is_built_in file.path file.opening file.disk);
  is_built_in = is_some rendering && (is_told file.kind && file.keeping.is_built_in);
  refusals = file.disk.refusals;
  rolled = Some file;
  plain = None;
}

-- what is told at the start of what was written since: nothing was
abbrev pub begun_empty : Bool → Disk → Option (List ℕ)
begun_empty built_in disk = if disk.tells && built_in then Some [] else None

-- the store of the file
abbrev pub store_of : {S P E : Type 0} {store : Store.Ghosts S} {keep : Keep.Ghosts P S}
    → RollingFileAppender S P E store keep → S
store_of a = a.store

-- the policy that rolls the file
abbrev pub policy_of : {S P E : Type 0} {store : Store.Ghosts S} {keep : Keep.Ghosts P S}
    → RollingFileAppender S P E store keep → P
policy_of a = a.policy

-- the path and the length of the file, and whether it is open
abbrev pub log_of : {S P E : Type 0} {store : Store.Ghosts S} {keep : Keep.Ghosts P S}
    → RollingFileAppender S P E store keep → LogFile
log_of a = a.log

-- the bytes of its path
abbrev pub path_of : {S P E : Type 0} {store : Store.Ghosts S} {keep : Keep.Ghosts P S}
    → RollingFileAppender S P E store keep → List ℕ
path_of a = log_path a.log

-- whether an opening keeps what the file holds
abbrev pub appends : {S P E : Type 0} {store : Store.Ghosts S} {keep : Keep.Ghosts P S}
    → RollingFileAppender S P E store keep → Bool
appends a = a.append

-- the store and the policy as the appender was built
abbrev pub opening_of : {S P E : Type 0} {store : Store.Ghosts S} {keep : Keep.Ghosts P S}
    → RollingFileAppender S P E store keep → S
opening_of a = a.opened.value

abbrev pub settings_of : {S P E : Type 0} {store : Store.Ghosts S} {keep : Keep.Ghosts P S}
    → RollingFileAppender S P E store keep → P
settings_of a = a.settings.value

abbrev pub encoder_of : {S P E : Type 0} {store : Store.Ghosts S} {keep : Keep.Ghosts P S}
    → RollingFileAppender S P E store keep → E
encoder_of a = a.encoder

-- the rolled file that an appender tells of, by what its policy and its encoder tell
abbrev pub rolled_file : {S P E : Type 0} {store : Store.Ghosts S} {keep : Keep.Ghosts P S}
    → (P → Kind) → Option (Record → Context → List Run)
    → RollingFileAppender S P E store keep → RolledFile
rolled_file {store = store} {keep = keep} kind rendering a = record {
  path = path_of a;
  append = appends a;
  reading = plain_reading rendering;
  kind = kind (policy_of a);
  settings = keep.keeping (settings_of a);
  keeping = keep.keeping (policy_of a);
  opening = store.disk (opening_of a);
  disk = store.disk (store_of a);
  good = a.good;
}

-- an appender that was begun with these
pub record IsBegun {S P E : Type 0} {store : Store.Ghosts S} {keep : Keep.Ghosts P S}
    (disk : S → Disk) (start : S) (policy : P) (place : List ℕ) (append : Bool)
    (a : RollingFileAppender S P E store keep) : Type 0 where
  pub path : path_of a ≡ place
  pub mode : appends a ≡ append
  pub settings : settings_of a ≡ policy
  -- no file was changed between the start and its opening
  pub opening : Calls (disk start) (disk (opening_of a)) (λ added. added ≡ [])

-- an appender that was opened with these, and is open
pub record IsOpened {S P E : Type 0} {store : Store.Ghosts S} {keep : Keep.Ghosts P S}
    (start : S) (policy : P) (place : List ℕ) (append : Bool) (given : E)
    (a : RollingFileAppender S P E store keep) : Type 0 where
  pub opened : IsTrue (is_open (log_of a))
  pub path : path_of a ≡ place
  pub mode : appends a ≡ append
  pub opening : opening_of a ≡ start
  pub settings : settings_of a ≡ policy
  pub encoder : encoder_of a ≡ given

-- the store after an opening: that of the appender, or the one that is handed back
abbrev pub store_after : {S P E : Type 0} {store : Store.Ghosts S} {keep : Keep.Ghosts P S}
    → Result (RollingFileAppender S P E store keep) (S × LogError) → S
store_after (Ok a) = a.store
store_after (Err failed) = failed.0

-- the same file by the same settings, with the same encoder
abbrev pub IsSameFile : {S P E : Type 0} {store : Store.Ghosts S} {keep : Keep.Ghosts P S}
    → RollingFileAppender S P E store keep → RollingFileAppender S P E store keep → Type 0
IsSameFile before now =
    (path_of now ≡ path_of before)
    × (appends now ≡ appends before)
    × (opening_of now ≡ opening_of before)
    × (settings_of now ≡ settings_of before)
    × (encoder_of now ≡ encoder_of before)

-- the same, with the same policy, which was not called
abbrev pub KeepsPolicy : {S P E : Type 0} {store : Store.Ghosts S} {keep : Keep.Ghosts P S}
    → RollingFileAppender S P E store keep → RollingFileAppender S P E store keep → Type 0
KeepsPolicy before now = IsSameFile before now × (policy_of now ≡ policy_of before)

-- the same file by the same settings, whatever text was made last
abbrev pub IsSamePlace : {S P E : Type 0} {store : Store.Ghosts S} {keep : Keep.Ghosts P S}
    → RollingFileAppender S P E store keep → RollingFileAppender S P E store keep → Type 0
IsSamePlace before now =
    (path_of now ≡ path_of before)
    × (appends now ≡ appends before)
    × (opening_of now ≡ opening_of before)
    × (settings_of now ≡ settings_of before)

-- the same file by the same settings and the same policy, whatever text was made last
abbrev pub KeepsFile : {S P E : Type 0} {store : Store.Ghosts S} {keep : Keep.Ghosts P S}
    → RollingFileAppender S P E store keep → RollingFileAppender S P E store keep → Type 0
KeepsFile before now = IsSamePlace before now × (policy_of now ≡ policy_of before)

-- its settings
abbrev pub maker_of : {M : Type 0} → RollingFileAppenderBuilder M → M
maker_of b = b.encoder

abbrev pub appends_of : {M : Type 0} → RollingFileAppenderBuilder M → Bool
appends_of b = b.append
