-- The fields of an object of settings.
use Rattle.std.specs.Prelude.{ℕ, Bool, List, Option, Some, None, Result, Ok, Err, String, Vec}
use Rattle.std.specs.Prelude.{if◌then◌else◌}
use Rattle.std.specs.BTreeMap.{BTreeMap}
use Rattle.std.specs.List.{list_any}
use Rattle.std.specs.Str.{bytes_eq}
use Rattle.std.specs.declared.alloc.Global.{Global}
use Rattle.log4rs_settings.specs.Data.{Data, null, Items, Members, no_members, member}
use Rattle.log4rs_settings.specs.View.{items_view, members_view}
use Rattle.log4rs_settings.specs.declared.tree.Tree.{Tree}
use Rattle.log4rs_settings.specs.Fault.{Fault, unknown_field, missing_field}

-- first this, then that with its value; the first fault stays
infixl 10 ◌>>=◌
abbrev pub ◌>>=◌ : {A B E : Type 0} → Result A E → (A → Result B E) → Result B E
Ok x >>= f = f x
Err e >>= f = Err e

-- the key is one of the names
abbrev pub is_among : List ℕ → List (List ℕ) → Bool
is_among key names = list_any (λ name. bytes_eq name key) names

-- every field is among the names, else the least that is not is refused
abbrev pub only_known : List (List ℕ) → Members → Result (Unit {0}) Fault
only_known names no_members = Ok tt
only_known names (member key d ms) =
    if is_among key names then only_known names ms else Err (unknown_field key)

-- what stands at a field that must be there
abbrev pub present : List ℕ → Option Data → Result Data Fault
present name (Some d) = Ok d
present name None = Err (missing_field name)

-- null stands for an absent field
abbrev pub given : Option Data → Option Data
given None = None
given (Some null) = None
given (Some d) = Some d

-- what a list of trees, and a map of them, holds
abbrev pub list_view : Vec Tree Global → Items
list_view v = items_view v.items

abbrev pub object_view : BTreeMap (String Global) Tree → Members
object_view m = members_view m.entries
