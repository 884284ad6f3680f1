-- A store of real files, as contracts see it.
use Rattle.std.specs.Prelude.{ℕ, List, Option, string_bytes}
use Rattle.std.specs.Option.{option_map}
use Rattle.log4rs_rolling.specs.declared.store.files.FsStore.{FsStore}

-- how many operations were refused
abbrev pub counted : {R F D : Type 0} → FsStore R F D → ℕ
counted store = store.refusals

-- the path of the open file
abbrev pub open_in : {R F D : Type 0} → FsStore R F D → Option (List ℕ)
open_in store = option_map (λ opened. string_bytes opened.path) store.opened
