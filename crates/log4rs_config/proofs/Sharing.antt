-- What names that begin alike share with a target.
use Rattle.std.proofs.Common.{◌≡◌, ℕ, ◌<◌, ◌≤◌, zero, suc, List, [], ◌∷◌, Some, All, length, map, get_or, slice_get, min, refl, ap, ◌∙◌, subst, arith, ◌⊎◌, inl, inr, ⊎_elim}
use Rattle.log4rs_base.specs.Text.{Text}
use Rattle.log4rs_config.specs.declared.order.Digests.{Digests}
use Rattle.log4rs_config.specs.Digests.{BeginsWith, IsDigested, digest_behind}
use Rattle.log4rs_config.proofs.Halving.{either}
use Rattle.log4rs_config.proofs.Alike.{begins-shared}
use Rattle.log4rs_config.proofs.Seeking.{AllShare}

-- what holds of all, at a place
pub all-at : {X : Type 0} (P : X → Type 0) (xs : List X) (i : ℕ) (x : X) → All P xs → slice_get xs i ≡ Some x → P x
all-at {X = X} P xs i x all e = let (l, is) = there xs i e in subst P is (all i x l)
  where
    there : (xs : List X) (i : ℕ) → slice_get xs i ≡ Some x → (i < length xs) × (get_or xs i x ≡ x)
    there [] i e = absurd (cc e)
    there (y ∷ ys) zero e = (omega arith, (let s : y ≡ x = cc e in s))
    there (y ∷ ys) (suc i) e = let (l, is) = there ys i e in (omega (arith, l), is)

-- all names share what they begin with
pub all-share : (d : Digests) (names : List Text) (target : Text) → IsDigested d names → BeginsWith d.common.items target → AllShare names target (length d.common.items)
all-share d names target is begins i name at = begins-shared name target d.common.items (all-at (BeginsWith d.common.items) names i name is.common at) begins

-- the number of a name
pub digest-at : (d : Digests) (names : List Text) (i other : ℕ) (name : Text) → IsDigested d names → slice_get names i ≡ Some name
    → get_or d.values.items i other ≡ digest_behind (length d.common.items) name
digest-at d names i other name is at = ap (λ (xs : List ℕ). get_or xs i other) is.values ∙ mapped (digest_behind (length d.common.items)) names i name at
  where
    mapped : (f : Text → ℕ) (names : List Text) (i : ℕ) (name : Text) → slice_get names i ≡ Some name → get_or (map f names) i other ≡ f name
    mapped f [] i name e = absurd (cc e)
    mapped f (x ∷ xs) zero name e = ap f (let s : x ≡ name = cc e in s)
    mapped f (x ∷ xs) (suc i) name e = mapped f xs i name e

-- a name stands at each place
pub there-is : (names : List Text) (i : ℕ) → i < length names → (name : Text) × (slice_get names i ≡ Some name)
there-is [] i l = absurd (omega (arith, l))
there-is (x ∷ xs) zero l = (x, refl)
there-is (x ∷ xs) (suc i) l = there-is xs i (omega (arith, l))

pub lesser-of : (m a b : ℕ) → m ≡ min a b → ((m ≡ a) × (a ≤ b)) ⊎ ((m ≡ b) × (b ≤ a))
lesser-of m a b e = ⊎_elim (λ (l : a ≤ b). inl (omega (arith, e, l), l)) (λ (l : b < a). inr (omega (arith, e, l), omega (arith, l))) (or_less a b)
  where
    or_less : (a b : ℕ) → (a ≤ b) ⊎ (b < a)
    or_less a b = ⊎_elim (λ (l : b < a). inr l) (λ (l : a ≤ b). inl l) (either b a)
