-- Results of jobs, place by place.
use Rattle.std.proofs.Common.{◌≡◌, ℕ, ◌<◌, List, [], ◌∷◌, length, slice_index_or, map, Result, Ok, IfOk, suc, sym, subst, arith}
use Rattle.std.specs.List.{AllZip}

-- a relation holds place by place if it holds at each index
zipped : {A B : Type 0} (R : A → B → Type 0) (xs : List A) (ys : List B) → length ys ≡ length xs
    → ((i : ℕ) (d : A) (e : B) → i < length xs → R (slice_index_or xs i d) (slice_index_or ys i e)) → AllZip R xs ys
zipped R [] [] long each = tt
zipped R [] (y ∷ ys) long each = absurd (omega arith)
zipped R (x ∷ xs) [] long each = absurd (omega arith)
zipped R (x ∷ xs) (y ∷ ys) long each =
    (each 0 x y (omega arith), zipped R xs ys (omega arith) (λ i d e inside. each (suc i) d e (omega arith)))

-- what holds of results that are Ok holds of their values
unwrapped : {A B : Type 0} (E : Type 0) (R : A → B → Type 0) (xs : List A) (ys : List B)
    → AllZip (λ x r. IfOk r (R x)) xs (map {A = B} {B = Result B E} (λ y. Ok y) ys) → AllZip R xs ys
unwrapped E R [] [] all = tt
unwrapped E R [] (y ∷ ys) all = absurd all
unwrapped E R (x ∷ xs) [] all = absurd all
unwrapped E R (x ∷ xs) (y ∷ ys) all = (all.0, unwrapped E R xs ys all.1)

-- if each result that is Ok has what holds of its job, and all are, then so have their values
pub answered : {A B E : Type 0} (R : A → B → Type 0) (xs : List A) (rs : List (Result B E)) (ys : List B) → length rs ≡ length xs
    → ((i : ℕ) (d : A) (e : Result B E) → i < length xs → IfOk (slice_index_or rs i e) (R (slice_index_or xs i d)))
    → map Ok ys ≡ rs → AllZip R xs ys
answered {E} R xs rs ys long each same =
    unwrapped E R xs ys (subst (λ l. AllZip (λ x r. IfOk r (R x)) xs l) (sym same) (zipped (λ x r. IfOk r (R x)) xs rs long each))
