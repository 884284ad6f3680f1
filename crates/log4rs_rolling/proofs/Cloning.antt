-- Names under a copy of an environment.
use Rattle.std.proofs.Common.{◌≡◌, ℕ, List, Option, Some, None, String, string_bytes, option_map, ap, ◌∙◌, MatchOption, IsSomeAnd, is_eq, if◌then◌else◌}
use Rattle.std.specs.declared.alloc.Global.{Global}
use Rattle.std.specs.BTreeMap.{BTreeMap, IsClone, is_at, get_by_text}
use Rattle.std.specs.Fmt.{decimal}
use Rattle.std.specs.Cmp.Lexicographic.{slice_cmp}
use Rattle.std.specs.Ordering.{nat_cmp}
use Rattle.std.proofs.lemmas.Map.Entries.{lookup_clone}
use mathlib.Core.Path.{fun_ext}
use Rattle.log4rs_base.specs.Names.{value_in, is_name, names_from}
use Rattle.log4rs_rolling.specs.Archives.{name_at, filled}

abbrev pub Env : Type 0
Env = BTreeMap (String Global) (String Global)

-- an environment was copied
abbrev pub IsCopy : Env → Env → Type 0
IsCopy env copy = IsClone (λ s t. string_bytes t ≡ string_bytes s) (λ s t. string_bytes t ≡ string_bytes s) env copy

-- a copy has the same values
copied : (env copy : Env) → IsCopy env copy → (name : List ℕ) → option_map string_bytes (get_by_text copy name) ≡ option_map string_bytes (get_by_text env name)
copied env copy is name =
    go (get_by_text env name) (get_by_text copy name)
    (lookup_clone _ _ (is_at (λ k. slice_cmp nat_cmp name (string_bytes k))) (λ x y same. ap (λ (bs : List ℕ). is_eq (slice_cmp nat_cmp name bs)) same) env.entries copy.entries is)
  where
    go : (v w : Option (String Global)) → MatchOption v (w ≡ None) (λ x. IsSomeAnd w (λ y. string_bytes y ≡ string_bytes x))
        → option_map string_bytes w ≡ option_map string_bytes v
    go None w absent = ap (option_map string_bytes) absent
    go (Some x) None there = elim there [ ]
    go (Some x) (Some y) there = ap Some there

same_values : (env copy : Env) → IsCopy env copy → value_in copy ≡ value_in env
same_values env copy is = fun_ext (λ name. ap (λ (v : Option (List ℕ)). if is_name name then v else None) (copied env copy is name))

-- and gives the same names
pub same_names : (pattern again : List ℕ) (env copy : Env) → again ≡ pattern → IsCopy env copy → name_at again copy ≡ name_at pattern env
same_names pattern again env copy same is =
    ap (λ (p : List ℕ). name_at p copy) same
    ∙ fun_ext (λ index. ap (λ v. names_from v 0 (filled (decimal index) pattern)) (same_values env copy is))
