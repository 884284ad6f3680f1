-- The names of archives: a pattern, an index in place of each `{}`, and then the values of names of
-- the environment.
use Rattle.std.specs.Prelude.{ℕ, zero, suc, Bool, false, ◌&&◌, ◌||◌, not, nat_eq, List, [], ◌∷◌}
use Rattle.std.specs.Prelude.{◌++◌, Option, Some, None, String, codes, nat_lt, if◌then◌else◌}
use Rattle.std.specs.BTreeMap.{BTreeMap}
use Rattle.std.specs.Fmt.{decimal}
use Rattle.std.specs.List.{starts_with, ends_with}
use Rattle.std.specs.declared.alloc.Global.{Global}
use Rattle.log4rs_base.specs.Names.{expanded_names}
use Rattle.log4rs_base.specs.Parent.{slash}
use Rattle.log4rs_base.specs.declared.error.RollerError.{RollerError}
use Rattle.log4rs_base.specs.declared.error.RollerError.TheVariants.{NoPlaceholder, GzipRequired}
use Rattle.log4rs_base.specs.declared.error.RollerError.TheVariants.{ZstdRequired, WindowTooLarge}

abbrev pub placeholder : List ℕ
placeholder = codes "{}"

abbrev pub is_opened : List ℕ → Bool
is_opened text = starts_with nat_eq text placeholder

-- a pattern with a text in place of each `{}`, read once from the left; `taken` bytes at the front
-- belong to a placeholder that is replaced already
unfoldable pub filled_from : List ℕ → ℕ → List ℕ → List ℕ
filled_from text taken [] = []
filled_from text (suc taken) (b ∷ rest) = filled_from text taken rest
filled_from text zero (b ∷ rest) =
    if is_opened (b ∷ rest) then text ++ filled_from text 1 rest else b ∷ filled_from text 0 rest

abbrev pub filled : List ℕ → List ℕ → List ℕ
filled text pattern = filled_from text 0 pattern

-- the name of the archive with an index
abbrev pub name_at : List ℕ → BTreeMap (String Global) (String Global) → ℕ → List ℕ
name_at pattern env index = expanded_names env (filled (decimal index) pattern)

-- whether a pattern has a `{}`
abbrev pub has_placeholder : List ℕ → Bool
has_placeholder [] = false
has_placeholder (b ∷ rest) = is_opened (b ∷ rest) || has_placeholder rest

-- whether a path has an extension, which is given with its dot: its last part ends in it, and has
-- more before it
abbrev pub has_extension : List ℕ → List ℕ → Bool
has_extension extension path =
    ends_with nat_eq path extension && not (ends_with nat_eq path (slash ∷ extension))

-- why a pattern is refused, and a window that ends at this index: the first reason, if there is one
abbrev pub refusal : List ℕ → ℕ → Option RollerError
refusal pattern end =
    if not (has_placeholder pattern) then Some NoPlaceholder
    else (if has_extension (codes ".gz") pattern then Some GzipRequired
    else (if has_extension (codes ".zst") pattern then Some ZstdRequired
    else (if nat_lt 4_294_967_295 end then Some WindowTooLarge else None)))

-- the name under which a file waits to be archived
abbrev pub waiting_name : List ℕ → List ℕ
waiting_name file = file ++ codes ".rolling"
