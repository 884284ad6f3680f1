-- What is found and left in a map of trees, by its members.
use Rattle.std.proofs.Common.{Option, Some, None, option_map, is_eq, cond, true, false, Bor, ◌≡◌, ℕ, Bool, List, [], ◌∷◌, String, Global, Ordering, Less, Equal, Greater, string_bytes, nat_cmp, refl, sym, ap, ◌∙◌}
use Rattle.std.specs.Map.{lookup, remove_entry}
use Rattle.std.specs.Ordering.{match_ordering}
use Rattle.std.specs.BTreeMap.{is_at}
use Rattle.std.specs.Cmp.Lexicographic.{slice_cmp}
use Rattle.log4rs_settings.specs.Data.{Data, Members, member}
use Rattle.log4rs_settings.specs.View.{view, members_view}
use Rattle.log4rs_settings.specs.declared.tree.Tree.{Tree}
use Rattle.log4rs_settings.proofs.Trees.{Entry}
use Rattle.log4rs_settings.specs.Members.{get_member, without}

-- a map's key as the text that a look-up compares
abbrev pub at_text : List ℕ → String Global → Ordering
at_text name k = slice_cmp nat_cmp name (string_bytes k)

found_or : (o : Ordering) (t : Tree) (rest : Option Tree) (d : Option Data) → option_map view rest ≡ d → option_map view (cond (is_eq o) (Some t) rest) ≡ match_ordering o d (Some (view t)) d
found_or Less t rest d e = e
found_or Equal t rest d e = refl
found_or Greater t rest d e = e

-- what a look-up finds
pub view-lookup : (name : List ℕ) (es : List Entry) → option_map view (lookup (is_at (at_text name)) es) ≡ get_member name (members_view es)
view-lookup name [] = refl
view-lookup name (e ∷ es) = found_or (at_text name e.0) e.1 _ _ (view-lookup name es)

left_or : (b : Bool) (e : Entry) (es rest : List Entry) (ms : Members) → members_view rest ≡ ms
    → members_view (cond b es (e ∷ rest)) ≡ cond b (members_view es) (member (string_bytes e.0) (view e.1) ms)
left_or true e es rest ms h = refl
left_or false e es rest ms h = ap (member (string_bytes e.0) (view e.1)) h

-- what a removal leaves
pub members_view-remove_entry : (name : List ℕ) (es : List Entry) → members_view (remove_entry (is_at (at_text name)) es) ≡ without name (members_view es)
members_view-remove_entry name [] = refl
members_view-remove_entry name (e ∷ es) = left_or (is_at (at_text name) e.0) e es _ _ (members_view-remove_entry name es)

view_of_ref : (r : Option (Bor Tree)) → option_map (λ t. view t.now) r ≡ option_map view (option_map (λ t. t.now) r)
view_of_ref None = refl
view_of_ref (Some t) = refl

-- what `get` finds in a map
pub view-get : (r : Option (Bor Tree)) (name : List ℕ) (es : List Entry) → option_map (λ t. t.now) r ≡ lookup (is_at (at_text name)) es
    → option_map (λ t. view t.now) r ≡ get_member name (members_view es)
view-get r name es found = view_of_ref r ∙ ap (option_map view) found ∙ view-lookup name es

-- what `remove` found, by cases
pub view-removed : (r : Option Tree) (name : List ℕ) (es : List Entry) → r ≡ lookup (is_at (at_text name)) es → get_member name (members_view es) ≡ option_map view r
view-removed r name es found = sym (ap (option_map view) found ∙ view-lookup name es)
