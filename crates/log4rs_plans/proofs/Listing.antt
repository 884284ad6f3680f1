-- What is found at one place after another.
use Rattle.std.proofs.Common.{◌≡◌, ℕ, ◌+◌, ◌<◌, ◌≤◌, List, [], ◌∷◌, ◌++◌, length, get_or, map, take, sym, ap, ◌∙◌, append-nil, append_assoc, arith}
use Rattle.std.proofs.lemmas.List.{length-map, length-take-le, map-append, take-map, take_all, take_more}
use Rattle.log4rs_plans.specs.Places.{each_at, each_from}

each_from-push : {A B : Type 0} (f : ℕ → A → List B) (n : ℕ) (xs : List A) (x : A) → each_from f n (xs ++ x ∷ []) ≡ each_from f n xs ++ f (n + length xs) x
each_from-push f n [] x = let e : n ≡ n + 0 = omega arith in append-nil (f n x) ∙ ap (λ k. f k x) e
each_from-push f n (y ∷ ys) x =
    let e : n + 1 + length ys ≡ n + length (y ∷ ys) = omega arith in
    ap (λ l. f n y ++ l) (each_from-push f (n + 1) ys x) ∙ sym (append_assoc (f n y) (each_from f (n + 1) ys) (f (n + 1 + length ys) x))
    ∙ ap (λ k. f n y ++ each_from f (n + 1) ys ++ f k x) e

-- behind what was found at the places in front, what is found at one more
pub one_more_place : {T A B : Type 0} (see : T → A) (f : ℕ → A → List B) (xs : List T) (i : ℕ) (x : T) (first between new last : List B)
    → i < length xs → x ≡ get_or xs i x → between ≡ first ++ each_at f (map see (take i xs)) → new ≡ between ++ last → last ≡ f i (see x)
    → new ≡ first ++ each_at f (map see (take (i + 1) xs))
one_more_place see f xs i x first between new last within here before is same =
    let front = map see (take i xs) in
    let here_too : take (i + 1) xs ≡ take i xs ++ x ∷ [] = take_more xs i x within ∙ ap (λ y. take i xs ++ y ∷ []) (sym here) in
    let grown : map see (take (i + 1) xs) ≡ front ++ see x ∷ [] = ap (map see) here_too ∙ map-append see (take i xs) (x ∷ []) in
    let below : i ≤ length xs = omega arith in
    let counted : length front ≡ i = length-map (take i xs) see ∙ length-take-le i xs below in
    let e : i ≡ 0 + length front = omega arith in
    is ∙ ap (λ l. l ++ last) before ∙ append_assoc first (each_at f front) last
    ∙ ap (λ l. first ++ l) (ap (λ l. each_at f front ++ l) same ∙ ap (λ k. each_at f front ++ f k (see x)) e ∙ sym (each_from-push f 0 front (see x)) ∙ ap (each_at f) (sym grown))

-- what was found at all of them
pub all_places : {T A B : Type 0} (see : T → A) (f : ℕ → A → List B) (xs : List T) (n : ℕ) (first new : List B)
    → length xs ≤ n → new ≡ first ++ each_at f (map see (take n xs)) → new ≡ first ++ each_at f (map see xs)
all_places see f xs n first new past is = is ∙ ap (λ ys. first ++ each_at f (map see ys)) (take_all n xs past)

-- what stands in front of a place
pub front_of : {T A : Type 0} (see : T → A) (xs : List T) (n place : ℕ) → n ≤ place → place ≤ n → map see (take n xs) ≡ take place (map see xs)
front_of see xs n place most least = let e : n ≡ place = omega arith in ap (λ k. map see (take k xs)) e ∙ sym (take-map see place xs)

-- what was found in two turns
pub two_turns : {B : Type 0} (first between new one other : List B) → between ≡ first ++ one → new ≡ between ++ other → new ≡ first ++ (one ++ other)
two_turns first between new one other before is = is ∙ ap (λ l. l ++ other) before ∙ append_assoc first one other
