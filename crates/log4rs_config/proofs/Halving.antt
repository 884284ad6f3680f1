-- A search by halving in a list that rises.
use Rattle.std.proofs.Common.{◌≡◌, ℕ, ◌<◌, ◌≤◌, ◌+◌, ◌/◌, ◌^◌, Bool, true, false, cond, List, [], ◌∷◌, Option, Some, None, length, refl, sym, ap, ◌∙◌, subst, position, not, arith, slice_get, nat_lt, suc, zero, map, ⊎_elim, ◌⊎◌, inl, inr, get_or}
use Rattle.std.specs.declared.cmp.Ordering.{Ordering}
use Rattle.std.specs.declared.cmp.Ordering.TheVariants.{Less, Equal, Greater}
use Rattle.std.specs.Bool.{one_answer}
use Rattle.std.specs.Option.{option_map_or}
use Rattle.std.specs.List.{position_or_len}
use Rattle.std.specs.Str.{bytes_eq}
use Rattle.std.specs.Cmp.{IsTotalOrder}
use Rattle.std.specs.Cmp.Lexicographic.{pointwise, slice_cmp, lists_total, lists_ties, nat_list_cmp_total, texts_ties}
use Rattle.std.specs.Ordering.{nat_cmp, is_eq, ordering_reverse, ordering_then}
use Rattle.std.proofs.lemmas.Bool.Decides.{Decides-ltb, nat_tests}
use Rattle.log4rs_base.specs.Text.{Text}
use Rattle.log4rs_config.specs.Name.{components}
use Rattle.log4rs_config.proofs.Components.{first_part}
use Rattle.log4rs_config.specs.Order.{parts_cmp, Rise}
use Rattle.log4rs_config.specs.Seeks.{AllBelow, AllAbove}

pub total : IsTotalOrder parts_cmp
total = lists_total nat_list_cmp_total

-- the test of equality is the order's
pub ties : (a b : List Text) → pointwise bytes_eq a b ≡ is_eq (parts_cmp a b)
ties a b = lists_ties (slice_cmp nat_cmp) texts_ties a b

pub flipped : (a b : List Text) (r : Ordering) → parts_cmp a b ≡ r → parts_cmp b a ≡ ordering_reverse r
flipped a b r e = total.antisymm b a ∙ ap ordering_reverse e

-- what stands before what is below is below
pub below : (a b t : List Text) → parts_cmp a b ≡ Less → parts_cmp b t ≡ Less → parts_cmp a t ≡ Less
below a b t = total.trans a b t

-- what stands behind what is above is above
pub above : (a b t : List Text) → parts_cmp b a ≡ Less → parts_cmp b t ≡ Greater → parts_cmp a t ≡ Greater
above a b t less greater = flipped t a Less (total.trans t b a (flipped b t Greater greater) less)

-- what stands before the place is below
pub before_it : (a b t : List Text) → parts_cmp a b ≡ Less → parts_cmp b t ≡ Equal → parts_cmp a t ≡ Less
before_it a b t less equal = flipped t a Greater (sym (total.congr b t a equal) ∙ flipped a b Less less)

below_next : (n m : ℕ) → nat_lt (suc n) (suc m) ≡ nat_lt n m
below_next n m =
    one_answer (nat_lt (suc n) (suc m)) (nat_lt n m) (Decides-ltb (suc n) (suc m))
    ((λ (t : nat_lt n m ≡ true). let l = (Decides-ltb n m).0 t in omega arith), (λ (t : suc n < suc m). (Decides-ltb n m).1 (omega arith)))

one_further : (n : ℕ) (t : Bool) → cond t (Some (suc n)) None ≡ option_map_or (λ i. Some (suc i)) (cond t (Some n) None) None
one_further n true = refl
one_further n false = refl

position_step : (n m k : ℕ) (b : Bool) → k ≡ suc n → cond (nat_lt (cond (not b) k 0) (suc m)) (Some (cond (not b) k 0)) None ≡ cond b (Some 0) (option_map_or (λ i. Some (suc i)) (cond (nat_lt n m) (Some n) None) None)
position_step n m k true e = ap (λ (t : Bool). cond t (Some 0) None) ((Decides-ltb 0 (suc m)).1 (omega arith))
position_step n m k false e =
    ap (λ (j : ℕ). cond (nat_lt j (suc m)) (Some j) None) e ∙ (ap (λ (t : Bool). cond t (Some (suc n)) None) (below_next n m) ∙ one_further n (nat_lt n m))

pub first_of : {X : Type 0} (p : X → Bool) (x : X) (xs : List X) → position p (x ∷ xs) ≡ cond (p x) (Some 0) (option_map_or (λ i. Some (suc i)) (position p xs) None)
first_of p x xs = position_step (position_or_len p xs) (length xs) (1 + position_or_len p xs) (p x) (omega arith)

-- the first that passes
pub position_found : {X : Type 0} (p : X → Bool) (xs : List X) (i : ℕ) (x : X) → slice_get xs i ≡ Some x → p x ≡ true
    → ((j : ℕ) (y : X) → j < i → slice_get xs j ≡ Some y → p y ≡ false) → position p xs ≡ Some i
position_found p [] i x at passes fails = absurd (cc at)
position_found p (y ∷ xs) zero x at passes fails =
    let same : y ≡ x = cc at in
    first_of p y xs ∙ ap (λ (b : Bool). cond b (Some 0) (option_map_or (λ i. Some (suc i)) (position p xs) None)) (ap p same ∙ passes)
position_found p (y ∷ xs) (suc i) x at passes fails =
    let rest = position_found p xs i x at passes (λ j z lt there. fails (suc j) z (omega (arith, lt)) there) in
    first_of p y xs ∙ (ap (λ (b : Bool). cond b (Some 0) (option_map_or (λ i. Some (suc i)) (position p xs) None)) (fails 0 y (omega arith) refl) ∙ ap (λ (o : Option ℕ). option_map_or (λ i. Some (suc i)) o None) rest)

-- none passes
pub position_none : {X : Type 0} (p : X → Bool) (xs : List X) → ((j : ℕ) (y : X) → slice_get xs j ≡ Some y → p y ≡ false) → position p xs ≡ None
position_none p [] fails = refl
position_none p (y ∷ xs) fails =
    let rest = position_none p xs (λ j z there. fails (suc j) z there) in
    first_of p y xs ∙ (ap (λ (b : Bool). cond b (Some 0) (option_map_or (λ i. Some (suc i)) (position p xs) None)) (fails 0 y refl) ∙ ap (λ (o : Option ℕ). option_map_or (λ i. Some (suc i)) o None) rest)

-- half of what is left needs one digit less
pub halves : (m left : ℕ) → 0 < m → m < 2 ^ left → (k : ℕ) × (left ≡ suc k) × (m / 2 < 2 ^ k)
halves m zero pos lt = absurd (omega (arith, pos, lt))
halves m (suc k) pos lt = (k, refl, omega (arith, lt))

tri : (i m : ℕ) → i < suc m → (i < m) ⊎ (i ≡ m)
tri i m lt = cases (nat_lt i m) refl
  where
    cases : (b : Bool) → nat_lt i m ≡ b → (i < m) ⊎ (i ≡ m)
    cases true e = inl ((Decides-ltb i m).0 e)
    cases false e = inr (grind (arith, nat_tests))

pub low_rises : (keys : List (List Text)) (t : List Text) (middle : ℕ) (b : List Text) → Rise keys → slice_get keys middle ≡ Some b → parts_cmp b t ≡ Less → AllBelow keys t (middle + 1)
low_rises keys t middle b rise there less i a lt at =
    ⊎_elim (λ (l : i < middle). below a b t (rise i middle a b l at there) less)
    (λ (e : i ≡ middle). let same : a ≡ b = cc (at, there, e) in subst (λ (x : List Text). parts_cmp x t ≡ Less) (sym same) less)
    (tri i middle (omega (arith, lt)))

pub high_falls : (keys : List (List Text)) (t : List Text) (middle : ℕ) (b : List Text) → Rise keys → slice_get keys middle ≡ Some b → parts_cmp b t ≡ Greater → AllAbove keys t middle
high_falls keys t middle b rise there greater i a le at =
    ⊎_elim (λ (l : middle < i). above a b t (rise middle i b a l there at) greater)
    (λ (e : middle ≡ i). let same : a ≡ b = cc (at, there, e) in subst (λ (x : List Text). parts_cmp x t ≡ Greater) (sym same) greater)
    (tri middle i (omega (arith, le)))

pub either : (j low : ℕ) → (j < low) ⊎ (low ≤ j)
either j low = cases (nat_lt j low) refl
  where
    cases : (b : Bool) → nat_lt j low ≡ b → (j < low) ⊎ (low ≤ j)
    cases true e = inl ((Decides-ltb j low).0 e)
    cases false e = inr (grind (arith, nat_tests))

-- nothing is found
pub nothing : (keys : List (List Text)) (t : List Text) (low high : ℕ) → high ≤ low → AllBelow keys t low → AllAbove keys t high → position (λ k. pointwise bytes_eq k t) keys ≡ None
nothing keys t low high le small great =
    position_none (λ k. pointwise bytes_eq k t) keys
    (λ j a at. ⊎_elim (λ (l : j < low). ties a t ∙ ap is_eq (small j a l at)) (λ (l : low ≤ j). ties a t ∙ ap is_eq (great j a (omega (arith, le, l)) at)) (either j low))

pub found : (keys : List (List Text)) (t : List Text) (middle : ℕ) (b : List Text) → Rise keys → slice_get keys middle ≡ Some b → parts_cmp b t ≡ Equal → position (λ k. pointwise bytes_eq k t) keys ≡ Some middle
found keys t middle b rise there equal =
    position_found (λ k. pointwise bytes_eq k t) keys middle b there (ties b t ∙ ap is_eq equal)
    (λ j a lt at. ties a t ∙ ap is_eq (before_it a b t (rise j middle a b lt at there) equal))

position-map : {X Y : Type 0} (f : X → Y) (p : Y → Bool) (xs : List X) → position p (map f xs) ≡ position (λ x. p (f x)) xs
position-map f p [] = refl
position-map f p (x ∷ xs) =
    first_of p (f x) (map f xs) ∙ (ap (λ (o : Option ℕ). cond (p (f x)) (Some 0) (option_map_or (λ i. Some (suc i)) o None)) (position-map f p xs) ∙ sym (first_of (λ z. p (f z)) x xs))

pub by_keys : {X : Type 0} (key : X → List Text) (t : List Text) (xs : List X) (o : Option ℕ) → position (λ k. pointwise bytes_eq k t) (map key xs) ≡ o → o ≡ position (λ x. pointwise bytes_eq (key x) t) xs
by_keys key t xs o e = sym e ∙ position-map key (λ k. pointwise bytes_eq k t) xs

pub get_there : {X : Type 0} (xs : List X) (i : ℕ) (x : X) → i < length xs → x ≡ get_or xs i x → slice_get xs i ≡ Some x
get_there [] i x lt e = absurd (omega (arith, lt))
get_there (y ∷ xs) zero x lt e = ap (λ (z : _). Some z) (sym e)
get_there (y ∷ xs) (suc i) x lt e = get_there xs i x (omega (arith, lt)) e

-- a list that ends where another goes on comes first
pub shorter : (part first rest : Text) (left right : List Text) → left ≡ part ∷ [] → right ≡ first ∷ components rest → slice_cmp nat_cmp part first ≡ Equal → parts_cmp left right ≡ Less
shorter part first rest left right l r equal =
    let f = first_part rest in
    (ap (λ (x : List Text). parts_cmp x right) l ∙ ap (parts_cmp (part ∷ [])) (r ∙ ap (λ (z : List Text). first ∷ z) f.2)) ∙ ap (λ (o : Ordering). ordering_then o Less) equal

pub longer : (part first rest : Text) (left right : List Text) → left ≡ part ∷ components rest → right ≡ first ∷ [] → slice_cmp nat_cmp part first ≡ Equal → parts_cmp left right ≡ Greater
longer part first rest left right l r equal =
    let f = first_part rest in
    (ap (parts_cmp left) r ∙ ap (λ (x : List Text). parts_cmp x (first ∷ [])) (l ∙ ap (λ (z : List Text). part ∷ z) f.2)) ∙ ap (λ (o : Ordering). ordering_then o Greater) equal
