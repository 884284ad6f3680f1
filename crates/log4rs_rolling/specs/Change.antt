-- What an operation of a store changes, and the files after it.
use Rattle.std.specs.Prelude.{ℕ, List, [], ◌∷◌, ◌++◌, Option, Some, None, unwrap_or, if◌then◌else◌}
use Rattle.std.specs.Prelude.{string_bytes}
use Rattle.std.specs.Str.{bytes_eq}
use Rattle.log4rs_rolling.specs.declared.store.Open.{Open}
use Rattle.log4rs_rolling.specs.declared.store.Open.TheVariants.{Append, Truncate}
use Rattle.log4rs_rolling.specs.declared.store.lookups.Trace.{Trace}
use Rattle.log4rs_rolling.specs.declared.store.lookups.Trace.TheVariants.{Same, From, Absent, Empty}
use Rattle.log4rs_rolling.specs.declared.store.lookups.Trace.TheVariants.{Longer}

-- the bytes of the present file of a path
abbrev pub Files : Type 0
Files = List ℕ → Option (List ℕ)

-- what one operation changed, by paths and bytes
pub data Change : Type 0 where
  opened : List ℕ → Open → Change
  wrote : List ℕ → List ℕ → Change
  renamed : List ℕ → List ℕ → Change
  copied : List ℕ → List ℕ → Change
  removed : List ℕ → Change

-- the files with this at one path
abbrev pub put : Files → List ℕ → Option (List ℕ) → Files
put files path value q = if bytes_eq q path then value else files q

-- the bytes of a file, none where it is absent
abbrev pub bytes_at : Files → List ℕ → List ℕ
bytes_at files path = unwrap_or (files path) []

-- the files after one change
abbrev pub after : Files → Change → Files
after files (opened path Append) = put files path (Some (bytes_at files path))
after files (opened path Truncate) = put files path (Some [])
after files (wrote path bytes) = put files path (Some (bytes_at files path ++ bytes))
after files (renamed from to) = put (put files from None) to (files from)
after files (copied from to) = put files to (files from)
after files (removed path) = put files path None

-- the files after a list of changes, the first of them first
abbrev pub replay : Files → List Change → Files
replay files [] = files
replay files (change ∷ changes) = replay (after files change) changes

-- the bytes that a change wrote to a path
abbrev pub written_by : List ℕ → Change → List ℕ
written_by path (wrote at bytes) = if bytes_eq at path then bytes else []
written_by path (opened at how) = []
written_by path (renamed from to) = []
written_by path (copied from to) = []
written_by path (removed at) = []

-- the bytes that were written to a path, in order
abbrev pub written : List ℕ → List Change → List ℕ
written path [] = []
written path (change ∷ changes) = written_by path change ++ written path changes

-- the file at a path, by what an effect says of it and the files before
abbrev pub traced : Files → List ℕ → Trace → Option (List ℕ)
traced files path Same = files path
traced files path (From at) = files (string_bytes at.now)
traced files path Absent = None
traced files path Empty = Some []
traced files path (Longer bytes) = Some (bytes_at files path ++ bytes.now)
