-- A tree, level by level.
use Rattle.std.proofs.Common.{arith, get_or, drop, length, ◌≡◌, ℕ, List, [], ◌∷◌, ◌++◌, map, String, Vec, BTreeMap, Global, Less, Greater, string_bytes, nat_cmp, refl, ap, ◌∙◌, rules}
use Rattle.std.proofs.lemmas.Cmp.{nat_list_cmp_total}
use Rattle.std.specs.List.{AllByRecursion}
use Rattle.std.specs.List.Sorted.{IsStrictlySortedBy}
use Rattle.std.specs.Map.{keys_of}
use Rattle.std.specs.String.{string_cmp}
use Rattle.std.specs.Ordering.{ordering_reverse}
use Rattle.std.specs.BTreeMap.{insert_entry}
use Rattle.std.specs.Cmp.Lexicographic.{slice_cmp}
use Rattle.log4rs_settings.specs.Data.{Data, list, map as table, Items, no_items, item, Members, no_members, member}
use Rattle.log4rs_settings.specs.View.{view, items_view, members_view}
use Rattle.log4rs_settings.specs.declared.tree.Tree.{Tree, List as ListCase, Map as MapCase, the_lemmas}

abbrev pub Entry : Type 0
Entry = String Global × Tree

pub view-List : (v : Vec Tree Global) → view (ListCase v) ≡ list (items_view v.items)
view-List v = search (rules, the_lemmas)

pub view-Map : (m : BTreeMap (String Global) Tree) → view (MapCase m) ≡ table (members_view m.entries)
view-Map m = search (rules, the_lemmas)

-- one more item, or one more member, at the end
abbrev pub push_item : Items → Data → Items
push_item no_items e = item e no_items
push_item (item d ds) e = item d (push_item ds e)

abbrev pub with_last : Members → List ℕ → Data → Members
with_last no_members k d = member k d no_members
with_last (member l e ms) k d = member l e (with_last ms k d)

pub items_view-push : (ts : List Tree) (t : Tree) → items_view (ts ++ t ∷ []) ≡ push_item (items_view ts) (view t)
items_view-push [] t = refl
items_view-push (x ∷ ts) t = ap (item (view x)) (items_view-push ts t)

-- the keys of a list of entries, as bytes
abbrev pub names : {V : Type 0} → List (String Global × V) → List (List ℕ)
names es = map (λ e. string_bytes e.0) es

below_middle : {V : Type 0} (first : String Global) (es : List (String Global × V)) (e : String Global × V) (more : List (String Global × V))
    → AllByRecursion (λ y. string_cmp first y ≡ Less) (keys_of (es ++ e ∷ more)) → string_cmp first e.0 ≡ Less
below_middle first [] e more h = h.0
below_middle first (x ∷ es) e more h = below_middle first es e more h.1

-- a key above those before it goes last
pub insert_last : {V : Type 0} (es : List Entry) (done : List (String Global × V)) (e : String Global × V) (more : List (String Global × V)) (k : String Global) (t : Tree)
    → names es ≡ names done → string_bytes k ≡ string_bytes e.0 → IsStrictlySortedBy string_cmp (keys_of (done ++ e ∷ more))
    → insert_entry string_cmp es k t ≡ es ++ (k, t) ∷ []
unfolding IsStrictlySortedBy
insert_last [] done e more k t same named h = refl
insert_last (x ∷ es) [] e more k t same named h = absurd (omega (arith, ap length same))
insert_last (x ∷ es) (first ∷ done) e more k t same named h =
    let heads : string_bytes x.0 ≡ string_bytes first.0 = ap (λ ks. get_or ks 0 []) same in
    let tails : names es ≡ names done = ap (drop 1) same in
    let above : slice_cmp nat_cmp (string_bytes k) (string_bytes x.0) ≡ Greater =
    rw (named, heads) (nat_list_cmp_total.antisymm (string_bytes e.0) (string_bytes first.0) ∙ ap ordering_reverse (below_middle first.0 done e more h.0)) in
    rw above (ap (λ l. x ∷ l) (insert_last es done e more k t tails named h.1))

pub members_view-last : (es : List Entry) (k : String Global) (t : Tree) → members_view (es ++ (k, t) ∷ []) ≡ with_last (members_view es) (string_bytes k) (view t)
members_view-last [] k t = refl
members_view-last (e ∷ es) k t = ap (member (string_bytes e.0) (view e.1)) (members_view-last es k t)

pub names-last : {V W : Type 0} (es : List (String Global × V)) (done : List (String Global × W)) (k l : String Global) (v : V) (w : W)
    → names es ≡ names done → string_bytes k ≡ string_bytes l → names (es ++ (k, v) ∷ []) ≡ names (done ++ (l, w) ∷ [])
names-last [] [] k l v w same named = ap (λ b. b ∷ []) named
names-last [] (d ∷ done) k l v w same named = absurd (omega (arith, ap length same))
names-last (e ∷ es) [] k l v w same named = absurd (omega (arith, ap length same))
names-last (e ∷ es) (d ∷ done) k l v w same named =
    let heads : string_bytes e.0 ≡ string_bytes d.0 = ap (λ ks. get_or ks 0 []) same in
    let tails : names es ≡ names done = ap (drop 1) same in
    rw heads (ap (λ ks. string_bytes d.0 ∷ ks) (names-last es done k l v w tails named))
