-- Names that rise, and are put into order.
use Rattle.std.proofs.Common.{◌≡◌, ℕ, ◌<◌, ◌≤◌, ◌-◌, zero, suc, Bool, true, false, not, ◌||◌, IsTrue, List, [], ◌∷◌, ◌++◌, Option, Some, None, length, map, take, get_or, slice_get, refl, sym, ap, ◌∙◌, subst, arith, ⊎_elim}
use Rattle.std.specs.declared.cmp.Ordering.{Ordering}
use Rattle.std.specs.declared.cmp.Ordering.TheVariants.{Less, Equal, Greater}
use Rattle.std.specs.Option.{option_map_or}
use Rattle.std.specs.Ordering.{is_lt, is_eq, ordering_reverse}
use Rattle.std.specs.List.{IsDistinct, AllByRecursion}
use Rattle.std.specs.List.Sorted.{IsPermutation, IsSortedByKey}
use Rattle.std.specs.Str.{bytes_eq}
use Rattle.std.specs.Cmp.Lexicographic.{pointwise}
use Rattle.std.proofs.lemmas.Bool.{and_parts, not-true}
use Rattle.std.proofs.lemmas.Cmp.{nat_list_eq_equiv}
use Rattle.std.proofs.lemmas.List.Sorted.{IsPermutation-map, sorted_far, ranks_by}
use Rattle.std.proofs.lemmas.Map.Keys.{IsDistinct-IsPermutation, apart_from_distinct}
use Rattle.std.proofs.lemmas.Slice.Eq.{bytes_eq-Decides, slice_eq-Decides}
use Rattle.log4rs_base.specs.Text.{Text}
use Rattle.log4rs_config.specs.Name.{components}
use Rattle.log4rs_config.specs.Settings.{LoggerSetting, is_distinct, is_among}
use Rattle.log4rs_config.specs.Laws.{HaveDistinctNames}
use Rattle.log4rs_config.specs.Order.{parts_cmp, Rise}
use Rattle.log4rs_config.proofs.Halving.{total, ties, either}
use Rattle.log4rs_config.proofs.Joined.{joined-components}
use Rattle.log4rs_config.specs.Walk.{joined}

pub within : {X : Type 0} (xs : List X) (i : ℕ) (x : X) → slice_get xs i ≡ Some x → i < length xs
within [] i x e = absurd (cc e)
within (y ∷ ys) zero x e = omega arith
within (y ∷ ys) (suc i) x e = let l = within ys i x e in omega arith

pub there_is : {X : Type 0} (xs : List X) (i : ℕ) → i < length xs → (x : X) × (slice_get xs i ≡ Some x)
there_is [] i l = absurd (omega arith)
there_is (y ∷ ys) zero l = (y, refl)
there_is (y ∷ ys) (suc i) l = there_is ys i (omega arith)

front_kept : {X : Type 0} (xs ys : List X) (i : ℕ) → i < length xs → slice_get (xs ++ ys) i ≡ slice_get xs i
front_kept [] ys i l = absurd (omega arith)
front_kept (x ∷ xs) ys zero l = refl
front_kept (x ∷ xs) ys (suc i) l = front_kept xs ys i (omega arith)

last_one : {X : Type 0} (xs : List X) (x y : X) (i : ℕ) → length xs ≤ i → slice_get (xs ++ x ∷ []) i ≡ Some y → (i ≡ length xs) × (x ≡ y)
last_one [] x y zero l e = (refl, cc e)
last_one [] x y (suc i) l e = absurd (cc e)
last_one (z ∷ zs) x y zero l e = absurd (omega arith)
last_one (z ∷ zs) x y (suc i) l e = let (m, n) = last_one zs x y i (omega arith) e in (omega arith, n)

less_is : (o : Ordering) → is_lt o ≡ true → o ≡ Less
less_is Less e = refl
less_is Equal e = absurd (cc e)
less_is Greater e = absurd (cc e)

-- the key stands behind all of these, where it stands behind the last of them
behind_all : (keys : List (List Text)) (k : List Text) → Rise keys → option_map_or (λ last. is_lt (parts_cmp last k)) (slice_get keys (length keys - 1)) true ≡ true
    → (i : ℕ) (a : List Text) → slice_get keys i ≡ Some a → parts_cmp a k ≡ Less
behind_all keys k rise test i a at =
    let l = within keys i a at in
    let (last, there) = there_is keys (length keys - 1) (omega arith) in
    let less : parts_cmp last k ≡ Less = less_is (parts_cmp last k) (sym (ap (λ (o : Option (List Text)). option_map_or (λ x. is_lt (parts_cmp x k)) o true) there) ∙ test) in
    ⊎_elim (λ (m : i < length keys - 1). total.trans a last k (rise i (length keys - 1) a last m at there) less)
    (λ (m : length keys - 1 ≤ i).
    let same : i ≡ length keys - 1 = omega (arith, l, m) in
    let one : a ≡ last = cc (at, there, ap (slice_get keys) same) in
    subst (λ (x : List Text). parts_cmp x k ≡ Less) (sym one) less)
    (either i (length keys - 1))

-- one key more
pub rise-push : (keys : List (List Text)) (k : List Text) → Rise keys → option_map_or (λ last. is_lt (parts_cmp last k)) (slice_get keys (length keys - 1)) true ≡ true → Rise (keys ++ k ∷ [])
rise-push keys k rise test i j a b lt at bt =
    ⊎_elim (λ (l : j < length keys). rise i j a b lt (sym (front_kept keys (k ∷ []) i (omega (arith, lt, l))) ∙ at) (sym (front_kept keys (k ∷ []) j l) ∙ bt))
    (λ (l : length keys ≤ j).
    let (m, same) = last_one keys k b j l bt in
    let before : i < length keys = omega (arith, lt, m) in
    subst (λ (x : List Text). parts_cmp a x ≡ Less) same (behind_all keys k rise test i a (sym (front_kept keys (k ∷ []) i before) ∙ at)))
    (either j (length keys))

-- where all rise, the next stands behind the last
pub next-behind : (keys : List (List Text)) (i : ℕ) (k : List Text) → Rise keys → slice_get keys i ≡ Some k
    → option_map_or (λ last. is_lt (parts_cmp last k)) (slice_get (take i keys) (length (take i keys) - 1)) true ≡ true
next-behind keys i k rise at = by_last (slice_get (take i keys) (length (take i keys) - 1)) refl
  where
    taken : {X : Type 0} (xs : List X) (n j : ℕ) (x : X) → slice_get (take n xs) j ≡ Some x → (j < n) × (slice_get xs j ≡ Some x)
    taken xs zero j x e = absurd (cc e)
    taken [] (suc n) j x e = absurd (cc e)
    taken (y ∷ ys) (suc n) zero x e = (omega arith, e)
    taken (y ∷ ys) (suc n) (suc j) x e = let (l, f) = taken ys n j x e in (omega arith, f)

    by_last : (o : Option (List Text)) → slice_get (take i keys) (length (take i keys) - 1) ≡ o → option_map_or (λ last. is_lt (parts_cmp last k)) o true ≡ true
    by_last None e = refl
    by_last (Some last) e = let (l, f) = taken keys i (length (take i keys) - 1) last e in ap is_lt (rise _ i last k l f at)

not_any_step : (name n : Text) (names : List Text) (b : Bool) → bytes_eq name n ≡ b → (b || is_among names name) ≡ false
    → (is_among names name ≡ false → AllByRecursion (λ y. bytes_eq name y ≡ false) names) → (bytes_eq name n ≡ false) × AllByRecursion (λ y. bytes_eq name y ≡ false) names
not_any_step name n names true t f k = absurd (cc f)
not_any_step name n names false t f k = (t, k f)

not_any : (name : Text) (names : List Text) → is_among names name ≡ false → AllByRecursion (λ y. bytes_eq name y ≡ false) names
not_any name [] e = tt
not_any name (n ∷ names) e = not_any_step name n names (bytes_eq name n) refl e (λ (f : is_among names name ≡ false). not_any name names f)

pub distinct-names : (names : List Text) → IsTrue (is_distinct names) → IsDistinct bytes_eq names
unfolding IsDistinct
distinct-names [] d = tt
distinct-names (n ∷ names) d =
    let (apart, rest) = and_parts (not (is_among names n)) (is_distinct names) d in
    (not_any n names (not-true (is_among names n) apart), distinct-names names rest)

names_apart : (loggers others : List LoggerSetting) → HaveDistinctNames loggers → IsPermutation loggers others → (i j : ℕ) (d : Text) → i < j → j < length (map (λ l. l.name) others)
    → bytes_eq (get_or (map (λ l. l.name) others) i d) (get_or (map (λ l. l.name) others) j d) ≡ false
names_apart loggers others distinct moved i j d lt l =
    let name = λ (x : LoggerSetting). x.name in
    apart_from_distinct bytes_eq (map name others) i j d
    (IsDistinct-IsPermutation bytes_eq nat_list_eq_equiv.symm (map name loggers) (map name others) (IsPermutation-map name loggers others moved) (distinct-names (map name loggers) distinct))
    lt l

same_components : (x y : Text) → components x ≡ components y → x ≡ y
same_components x y e = sym (joined-components x) ∙ (ap joined e ∙ joined-components y)

strictly : (x y : Text) (o : Ordering) → parts_cmp (components y) (components x) ≡ o → is_lt o ≡ false → bytes_eq x y ≡ false → parts_cmp (components x) (components y) ≡ Less
strictly x y Less e lt apart = absurd (cc lt)
strictly x y Greater e lt apart = total.antisymm (components x) (components y) ∙ ap ordering_reverse e
strictly x y Equal e lt apart =
    let tied : pointwise bytes_eq (components y) (components x) ≡ true = ties (components y) (components x) ∙ ap is_eq e in
    let same = (slice_eq-Decides bytes_eq-Decides (components y) (components x) (pointwise bytes_eq (components y) (components x)) refl).0 tied in
    absurd (let yes = (bytes_eq-Decides x y).1 (sym (same_components y x same)) in cc (yes, apart))

pub get_of : {X : Type 0} (xs : List X) (i : ℕ) (x d : X) → slice_get xs i ≡ Some x → get_or xs i d ≡ x
get_of [] i x d e = absurd (cc e)
get_of (y ∷ ys) zero x d e = cc e
get_of (y ∷ ys) (suc i) x d e = get_of ys i x d e

-- an element of a mapped list
pub mapped : {X Y : Type 0} (f : X → Y) (xs : List X) (i : ℕ) (y : Y) → slice_get (map f xs) i ≡ Some y → (x : X) × (slice_get xs i ≡ Some x) × (f x ≡ y)
mapped f [] i y e = absurd (cc e)
mapped f (x ∷ xs) zero y e = (x, refl, cc e)
mapped f (x ∷ xs) (suc i) y e = mapped f xs i y e

pub length-same : {X Y : Type 0} (f : X → Y) (xs : List X) → length (map f xs) ≡ length xs
length-same f [] = refl
length-same f (x ∷ xs) = ap suc (length-same f xs)

-- loggers of distinct names that were sorted rise
pub sorted-rises : {X : Type 0} (logger : X → LoggerSetting) (xs : List X) (loggers : List LoggerSetting) → HaveDistinctNames loggers → IsPermutation loggers (map logger xs)
    → IsSortedByKey (λ x. components (logger x).name) parts_cmp xs → Rise (map (λ x. components (logger x).name) xs)
sorted-rises {X} logger xs loggers distinct moved sorted i j a b lt at bt =
    let key : X → List Text = λ x. components (logger x).name in
    let (x, xt, xa) = mapped key xs i a at in
    let (y, yt, yb) = mapped key xs j b bt in
    let l = within xs j y yt in
    let far = sorted_far (λ u v. is_lt (parts_cmp (key u) (key v))) (ranks_by total key) xs sorted i j x (omega (arith, lt)) l in
    let fine : is_lt (parts_cmp (key y) (key x)) ≡ false = sym (ap (λ (u : X). is_lt (parts_cmp (key u) (key (get_or xs i x)))) (get_of xs j y x yt) ∙ ap (λ (u : X). is_lt (parts_cmp (key y) (key u))) (get_of xs i x x xt)) ∙ far in
    let others : List LoggerSetting = map logger xs in
    let long : j < length (map (λ z. z.name) others) = omega (arith, l, length-same (λ (z : LoggerSetting). z.name) others, length-same logger xs) in
    let names = names_apart loggers others distinct moved i j (logger x).name lt long in
    let apart : bytes_eq (logger x).name (logger y).name ≡ false =
    sym (ap (λ (n : Text). bytes_eq n (get_or (map (λ z. z.name) others) j (logger x).name)) (get_of (map (λ z. z.name) others) i (logger x).name (logger x).name (there (λ z. z.name) others i (logger x) (there logger xs i x xt)))
    ∙ ap (bytes_eq (logger x).name) (get_of (map (λ z. z.name) others) j (logger y).name (logger x).name (there (λ z. z.name) others j (logger y) (there logger xs j y yt)))) ∙ names in
    subst (λ (k : List Text). parts_cmp k b ≡ Less) xa
    (subst (λ (k : List Text). parts_cmp (key x) k ≡ Less) yb
    (strictly (logger x).name (logger y).name (parts_cmp (key y) (key x)) refl fine apart))
  where
    there : {X Y : Type 0} (f : X → Y) (xs : List X) (i : ℕ) (x : X) → slice_get xs i ≡ Some x → slice_get (map f xs) i ≡ Some (f x)
    there f [] i x e = absurd (cc e)
    there f (y ∷ ys) zero x e = ap (λ (o : Option _). option_map_or (λ z. Some (f z)) o None) e
    there f (y ∷ ys) (suc i) x e = there f ys i x e
