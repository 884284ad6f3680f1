-- Names of the environment in a path.
use Rattle.std.specs.Prelude.{ℕ, zero, suc, ◌+◌, Bool, false, ◌&&◌, ◌||◌, ◌==◌, List, [], ◌∷◌, ◌++◌}
use Rattle.std.specs.Prelude.{length, Option, None, String, option_map, string_bytes, if◌then◌else◌}
use Rattle.std.specs.BTreeMap.{BTreeMap, get_by_text}
use Rattle.std.specs.declared.alloc.Global.{Global}
use Rattle.std.specs.List.{list_all}
use Rattle.std.specs.Option.{option_and_then}
use Rattle.std.specs.Str.{chars}
use Rattle.unicode.specs.Binary.{is_alphabetic}
use Rattle.ucd_category.specs.GeneralCategory.{general_category}
use Rattle.ucd_category.specs.GeneralCategoryGroup.{in_group}
use Rattle.ucd_category.specs.declared.GeneralCategoryGroup.TheVariants.{Number}
use Rattle.log4rs_base.specs.DateFormat.{match_some}
use Rattle.log4rs_base.specs.Placeholder.{Values, enclosed, env_opening, until_brace}

abbrev pub underscore : ℕ
underscore = 95

abbrev pub dot : ℕ
dot = 46

-- alphabetic, or of one of the general categories of numbers
unfoldable pub is_alphanumeric : ℕ → Bool
is_alphanumeric c = is_alphabetic c || in_group Number (general_category c)

-- a letter, a number or `_` begins a name, and dots may follow too
abbrev pub may_begin : ℕ → Bool
may_begin c = is_alphanumeric c || c == underscore

abbrev pub may_follow : ℕ → Bool
may_follow c = may_begin c || c == dot

-- whether these characters are a name
abbrev pub are_name : List ℕ → Bool
are_name [] = false
are_name (c ∷ cs) = may_begin c && list_all may_follow cs

abbrev pub is_name : List ℕ → Bool
is_name name = are_name (chars name)

-- the value that an environment has for a text that is a name
abbrev pub value_in : BTreeMap (String Global) (String Global) → Values
value_in env name = if is_name name then option_map string_bytes (get_by_text env name) else None

-- the value of the name up to the first `}`
abbrev pub value_until_brace : Values → List ℕ → Option (List ℕ)
value_until_brace value text = option_and_then value (until_brace text)

-- how many bytes `$ENV{name}` has behind its `$`
abbrev pub left_of_name : List ℕ → ℕ
left_of_name name = length name + 5

-- a path with the values of its names, read once from the left: where a name with a value stands,
-- the value, and what is read behind the name; else a byte, and what is read behind that. `taken`
-- bytes at the front belong to a name that is replaced already
unfoldable pub names_from : Values → ℕ → List ℕ → List ℕ
names_from value taken [] = []
names_from value (suc taken) (b ∷ rest) = names_from value taken rest
names_from value zero (b ∷ rest) =
    match_some (enclosed env_opening (b ∷ rest)) (b ∷ names_from value 0 rest) (λ name.
    match_some (value name) (b ∷ names_from value 0 rest) (λ text.
    text ++ names_from value (left_of_name name) rest))

-- a path with the value of each `$ENV{name}` in its place, where the environment has one
abbrev pub expanded_names : BTreeMap (String Global) (String Global) → List ℕ → List ℕ
expanded_names env path = names_from (value_in env) 0 path
