-- Two lists, place by place.
use Rattle.std.proofs.Common.{ℕ, zero, suc, ◌<◌, List, [], ◌∷◌, ◌++◌, length, get_or, arith}
use Rattle.std.specs.List.{AllZip}

pub AllZip-snoc : {A B : Type 0} (R : A → B → Type 0) (xs : List A) (ys : List B) (x : A) (y : B) → AllZip R xs ys → R x y
    → AllZip R (xs ++ (x ∷ [])) (ys ++ (y ∷ []))
AllZip-snoc R [] [] x y z r = (r, tt)
AllZip-snoc R [] (y' ∷ ys) x y z r = absurd z
AllZip-snoc R (x' ∷ xs) [] x y z r = absurd z
AllZip-snoc R (x' ∷ xs) (y' ∷ ys) x y z r = (z.0, AllZip-snoc R xs ys x y z.1 r)

-- each item of the first list has its partner
pub AllZip-partner : {A B : Type 0} (R : A → B → Type 0) (xs : List A) (ys : List B) (k : ℕ) (d : A) → k < length xs → AllZip R xs ys
    → (y : B) × R (get_or xs k d) y
AllZip-partner R [] ys k d h z = absurd (omega arith)
AllZip-partner R (x ∷ xs) [] k d h z = absurd z
AllZip-partner R (x ∷ xs) (y ∷ ys) zero d h z = (y, z.0)
AllZip-partner R (x ∷ xs) (y ∷ ys) (suc k) d h z = AllZip-partner R xs ys k d (omega arith) z.1
