-- Maps of files, as contracts see them.
use Rattle.std.proofs.Common.{◌≡◌, ℕ, List, ◌++◌, Bool, true, false, cond, Option, Some, None, Result, OnOk, refl, sym, ap, ◌∙◌, option_map, string_bytes, string_cmp, String, Vec, vec_len, MatchOption, IsSomeAnd, is_eq, bytes_eq, arith}
use Rattle.std.specs.declared.alloc.Global.{Global}
use Rattle.std.specs.BTreeMap.{BTreeMap, UpdatesBy, IsClone, is_at, get_by_text}
use Rattle.std.specs.List.{AllZip}
use Rattle.std.proofs.lemmas.Slice.Zip.{AllZip-map}
use Rattle.std.proofs.lemmas.List.{map-id}
use Rattle.std.proofs.lemmas.Result.{on_ok_weaker}
use Rattle.std.proofs.lemmas.Map.Entries.{lookup_clone}
use Rattle.std.specs.Cmp.Lexicographic.{slice_cmp}
use Rattle.std.specs.Ordering.{nat_cmp}
use Rattle.std.proofs.lemmas.Map.Text.{btree_map_updates_text}
use Rattle.std.proofs.lemmas.Slice.Eq.{bytes_eq-Decides}
use Rattle.log4rs_rolling.specs.Change.{Change, opened, wrote, renamed, copied, removed, Files, put, bytes_at, after}
use Rattle.log4rs_rolling.specs.declared.store.Open.TheVariants.{Append, Truncate}
use Rattle.log4rs_rolling.specs.MemStore.{files_in}

bytes_eq_swap : (p q : List ℕ) → bytes_eq p q ≡ bytes_eq q p
bytes_eq_swap p q = grind (arith, bytes_eq-Decides)

map_cond : (b : Bool) (v w : Option (Vec ℕ Global)) → option_map (λ bytes. bytes.items) (cond b v w) ≡ cond b (option_map (λ bytes. bytes.items) v) (option_map (λ bytes. bytes.items) w)
map_cond true v w = refl
map_cond false v w = refl

-- the bytes of what a map has at a path
abbrev pub items_of : Option (Vec ℕ Global) → Option (List ℕ)
items_of = option_map (λ bytes. bytes.items)

-- a map after a change at one path
pub files_in_changed : (p path : List ℕ) (m n : BTreeMap (String Global) (Vec ℕ Global)) (w o : Option (Vec ℕ Global)) → p ≡ path → o ≡ w
    → UpdatesBy string_cmp (λ k. slice_cmp nat_cmp p (string_bytes k)) m n w → (at : List ℕ)
    → files_in n at ≡ put (files_in m) path (items_of o) at
files_in_changed p path m n w o same is updates at =
    ap items_of (btree_map_updates_text p m n w updates at)
    ∙ map_cond (bytes_eq p at) w (get_by_text m at)
    ∙ ap (λ (b : Bool). cond b (items_of w) (files_in m at)) (bytes_eq_swap p at)
    ∙ ap (λ (q : List ℕ). put (files_in m) q (items_of w) at) same
    ∙ ap (λ (v : Option (Vec ℕ Global)). put (files_in m) path (items_of v) at) (sym is)

same_items : (xs ys : List ℕ) → AllZip (λ x y. y ≡ x) xs ys → ys ≡ xs
same_items xs ys zipped = AllZip-map (λ (x : ℕ). x) xs ys zipped ∙ map-id xs

-- a copy of a map has the same files
pub files_in_clone : (m n : BTreeMap (String Global) (Vec ℕ Global))
    → IsClone (λ s t. string_bytes t ≡ string_bytes s) (λ v w. AllZip (λ x y. y ≡ x) v.items w.items × (vec_len w ≡ vec_len v)) m n
    → (path : List ℕ) → files_in n path ≡ files_in m path
files_in_clone m n is path =
    go (get_by_text m path) (get_by_text n path) (lookup_clone _ _ (is_at (λ k. slice_cmp nat_cmp path (string_bytes k))) (λ x y same. ap (λ (bs : List ℕ). is_eq (slice_cmp nat_cmp path bs)) same) m.entries n.entries is)
  where
    go : (v w : Option (Vec ℕ Global)) → MatchOption v (w ≡ None) (λ x. IsSomeAnd w (λ y. AllZip (λ a b. b ≡ a) x.items y.items × (vec_len y ≡ vec_len x))) → items_of w ≡ items_of v
    go None w absent = ap items_of absent
    go (Some x) None there = elim there [ ]
    go (Some x) (Some y) there = ap Some (same_items x.items y.items there.0)

-- files that are the same at each path
abbrev pub Same : Files → Files → Type 0
Same f g = (path : List ℕ) → f path ≡ g path

pub put_same : (f g : Files) (path : List ℕ) (v w : Option (List ℕ)) → Same f g → v ≡ w → Same (put f path v) (put g path w)
put_same f g path v w same value q = go (bytes_eq q path) where
  go : (b : Bool) → cond b v (f q) ≡ cond b w (g q)
  go true = value
  go false = same q

bytes_same : (f g : Files) → Same f g → (path : List ℕ) → bytes_at f path ≡ bytes_at g path
bytes_same f g same path = ap (λ (o : Option (List ℕ)). bytes_at (λ _. o) path) (same path)

-- a change does the same to the same files
pub after_same : (f g : Files) (change : Change) → Same f g → Same (after f change) (after g change)
after_same f g (opened path Append) same = put_same f g path _ _ same (ap Some (bytes_same f g same path))
after_same f g (opened path Truncate) same = put_same f g path _ _ same refl
after_same f g (wrote path bytes) same = put_same f g path _ _ same (ap (λ (old : List ℕ). Some (old ++ bytes)) (bytes_same f g same path))
after_same f g (renamed from to) same = put_same (put f from None) (put g from None) to _ _ (put_same f g from None None same refl) (same from)
after_same f g (copied from to) same = put_same f g to _ _ same (same from)
after_same f g (removed path) same = put_same f g path _ _ same refl

-- what is put at a path twice is what was put there last
pub put_again : (f mid : Files) (path : List ℕ) (v : Option (List ℕ)) (w : Option (List ℕ)) → Same mid (put f path v) → Same (put mid path w) (put f path w)
put_again f mid path v w same q = go (bytes_eq q path) refl where
  go : (b : Bool) → bytes_eq q path ≡ b → cond b w (mid q) ≡ cond b w (f q)
  go true e = refl
  go false e = same q ∙ ap (λ (b : Bool). cond b v (f q)) e

-- files without one, whose path is told in another way
pub taken_out : (f mid : Files) (p path : List ℕ) → p ≡ path → Same mid (put f p None) → Same mid (put f path None)
taken_out f mid p path same without at = without at ∙ ap (λ (q : List ℕ). put f q None at) same

-- files that are the same as some, which are the same as others
pub then_same : {T E : Type 0} (r : Result T E) (new mid goal : Files) → OnOk r (Same new mid) → Same mid goal → OnOk r (Same new goal)
then_same r new mid goal ok same = on_ok_weaker {Q = Same new goal} r (λ h at. h at ∙ same at) ok
