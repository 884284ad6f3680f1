-- Lists, one item longer or with one changed.
use Rattle.std.proofs.Common.{◌≡◌, ◌≢◌, ◌∙◌, ℕ, zero, suc, ◌<◌, Bool, true, false, ◌==◌, List, [], ◌∷◌, ◌++◌, length, drop, get_or, set, refl, sym, ap, map, arith}
use Rattle.std.proofs.lemmas.Bool.Decides.{nat_tests}
use Rattle.std.proofs.lemmas.List.{map-append}
use Rattle.std.specs.BTreeMap.{is_at}
use Rattle.std.specs.Ordering.{nat_cmp}
use Rattle.std.specs.Prelude.{Option, Some, None, slice_get, option_map, if◌then◌else◌}

pub map_more_same : {X Y Z : Type 0} (f : X → Z) (g : Y → Z) (xs : List X) (ys : List Y) (x : X) (y : Y) → map f xs ≡ map g ys → f x ≡ g y → map f (xs ++ x ∷ []) ≡ map g (ys ++ y ∷ [])
map_more_same {Z = Z} f g xs ys x y all last =
    map-append f xs (x ∷ [])
    ∙ (ap (λ (zs : List Z). zs ++ f x ∷ []) all ∙ (ap (λ (z : Z). map g ys ++ z ∷ []) last ∙ sym (map-append g ys (y ∷ []))))

-- what holds of two lists place by place, where it never holds beyond the end of one alone
pub both_more : {X Y : Type 0} (P : Option X → Option Y → Type 0) → ((x : X) → P (Some x) None → ⊥) → ((y : Y) → P None (Some y) → ⊥) → P None None
    → (xs : List X) (ys : List Y) (x : X) (y : Y) → ((i : ℕ) → P (slice_get xs i) (slice_get ys i)) → P (Some x) (Some y)
    → (i : ℕ) → P (slice_get (xs ++ x ∷ []) i) (slice_get (ys ++ y ∷ []) i)
both_more P left right end [] [] x y all last zero = last
both_more P left right end [] [] x y all last (suc i) = end
both_more P left right end [] (b ∷ ys) x y all last i = absurd (right b (all zero))
both_more P left right end (a ∷ xs) [] x y all last i = absurd (left a (all zero))
both_more P left right end (a ∷ xs) (b ∷ ys) x y all last zero = all zero
both_more P left right end (a ∷ xs) (b ∷ ys) x y all last (suc i) = both_more P left right end xs ys x y (λ j. all (suc j)) last i

pub slice_get-set_same : {X : Type 0} (xs : List X) (i : ℕ) (y : X) → i < length xs → slice_get (set xs i y) i ≡ Some y
slice_get-set_same [] i y lt = absurd (omega arith)
slice_get-set_same (x ∷ xs) zero y lt = refl
slice_get-set_same (x ∷ xs) (suc i) y lt = slice_get-set_same xs i y (omega arith)

pub slice_get-set_other : {X : Type 0} (xs : List X) (i p : ℕ) (y : X) → p ≢ i → slice_get (set xs i y) p ≡ slice_get xs p
slice_get-set_other [] i p y ne = refl
slice_get-set_other (x ∷ xs) zero zero y ne = absurd (ne refl)
slice_get-set_other (x ∷ xs) zero (suc p) y ne = refl
slice_get-set_other (x ∷ xs) (suc i) zero y ne = refl
slice_get-set_other (x ∷ xs) (suc i) (suc p) y ne = slice_get-set_other xs i p y (λ e. ne (ap suc e))

changed : {X : Type 0} (xs : List X) (i : ℕ) (f : X → X) (d : X) → slice_get (set xs i (f (get_or xs i d))) i ≡ option_map f (slice_get xs i)
changed [] i f d = refl
changed (x ∷ xs) zero f d = refl
changed (x ∷ xs) (suc i) f d = changed xs i f d

pub slice_get-map : {X Y : Type 0} (f : X → Y) (xs : List X) (i : ℕ) → slice_get (map f xs) i ≡ option_map f (slice_get xs i)
slice_get-map f [] i = refl
slice_get-map f (x ∷ xs) zero = refl
slice_get-map f (x ∷ xs) (suc i) = slice_get-map f xs i

pub slice_get-drop : {X : Type 0} (xs : List X) (n : ℕ) → slice_get (drop n xs) 0 ≡ slice_get xs n
slice_get-drop [] zero = refl
slice_get-drop [] (suc n) = refl
slice_get-drop (x ∷ xs) zero = refl
slice_get-drop (x ∷ xs) (suc n) = slice_get-drop xs n

-- by whether two numbers are equal
pub by_equal : (P : Bool → Type 0) (i p : ℕ) → (i ≡ p → P true) → (p ≢ i → P false) → P (i == p)
by_equal P i p same other = go (i == p) refl
  where
    go : (b : Bool) → (i == p) ≡ b → P b
    go true e = same (grind (arith, nat_tests, e))
    go false e = other (λ (h : p ≡ i). absurd (grind (arith, nat_tests, e, h)))

-- by whether a key of a map is the one that was asked for
pub by_key : (P : Bool → Type 0) (k q : ℕ) → (k ≡ q → P true) → (q ≢ k → P false) → P (is_at (nat_cmp k) q)
by_key P k q same other = go (is_at (nat_cmp k) q) refl
  where
    go : (b : Bool) → is_at (nat_cmp k) q ≡ b → P b
    go true e = same (grind (arith, nat_tests, e))
    go false e = other (λ (h : q ≡ k). absurd (grind (arith, nat_tests, e, h)))

pub test_same : (k : ℕ) → (k == k) ≡ true
test_same k = grind (arith, nat_tests)

pub test_other : (k q : ℕ) → q ≢ k → (k == q) ≡ false
test_other k q ne = by_equal (λ b. b ≡ false) k q (λ e. absurd (ne (sym e))) (λ _. refl)

-- a change at one place
pub slice_get-changed : {X : Type 0} (xs : List X) (i p : ℕ) (f : X → X) (d : X)
    → slice_get (set xs i (f (get_or xs i d))) p ≡ (if i == p then option_map f (slice_get xs p) else slice_get xs p)
slice_get-changed xs i p f d =
    by_equal (λ b. slice_get (set xs i (f (get_or xs i d))) p ≡ (if b then option_map f (slice_get xs p) else slice_get xs p)) i p
    (λ e. rw (← e) (changed xs i f d))
    (λ ne. slice_get-set_other xs i p _ ne)
