-- A name as a list of numbers: its bytes, each one more, and 0 for each `::`. These lists stand in the order of names.
use Rattle.std.proofs.Common.{◌≡◌, ℕ, ◌<◌, ◌≤◌, ◌+◌, zero, suc, Bool, true, false, cond, ◌&&◌, ◌==◌, List, [], ◌∷◌, ◌++◌, length, take, drop, refl, sym, ap, ◌∙◌, subst, arith, ⊎_elim}
use Rattle.std.specs.declared.cmp.Ordering.{Ordering}
use Rattle.std.specs.declared.cmp.Ordering.TheVariants.{Less, Equal, Greater}
use Rattle.std.specs.Ordering.{nat_cmp, ordering_then, ordering_reverse}
use Rattle.std.specs.Cmp.Lexicographic.{slice_cmp}
use Rattle.std.proofs.lemmas.Bool.Decides.{Decides-ltb}
use Rattle.std.proofs.lemmas.Cmp.{nat_cmp_total}
use Rattle.log4rs_base.specs.Text.{Text}
use Rattle.log4rs_config.specs.Name.{colon, in_front, components}
use Rattle.log4rs_config.specs.Order.{parts_cmp}
use Rattle.log4rs_config.specs.Standing.{tokens, width}
use Rattle.log4rs_config.proofs.Halving.{either}

abbrev pub parts_of : List ℕ → List Text
parts_of [] = [] ∷ []
parts_of (zero ∷ ts) = [] ∷ parts_of ts
parts_of (suc b ∷ ts) = in_front b (parts_of ts)

parts_step : (a b : ℕ) (rest : Text) (t : Bool) → components rest ≡ parts_of (tokens rest) → components (b ∷ rest) ≡ parts_of (tokens (b ∷ rest))
    → cond t ([] ∷ components rest) (in_front a (components (b ∷ rest))) ≡ parts_of (cond t (0 ∷ tokens rest) (suc a ∷ tokens (b ∷ rest)))
parts_step a b rest true below beside = ap (λ (x : List Text). [] ∷ x) below
parts_step a b rest false below beside = ap (in_front a) beside

-- the components are those of the tokens
pub parts-tokens : (t : Text) → components t ≡ parts_of (tokens t)
parts-tokens [] = refl
parts-tokens (a ∷ []) = refl
parts-tokens (a ∷ b ∷ rest) = parts_step a b rest (a == colon && b == colon) (parts-tokens rest) (parts-tokens (b ∷ rest))

in_front_first : (b : ℕ) (xs : List Text) → (p : Text) × (ps : List Text) × (xs ≡ p ∷ ps) → (p : Text) × (ps : List Text) × (in_front b xs ≡ p ∷ ps)
in_front_first b xs (p, ps, e) = (b ∷ p, ps, ap (in_front b) e)

pub first-of_parts : (ts : List ℕ) → (p : Text) × (ps : List Text) × (parts_of ts ≡ p ∷ ps)
first-of_parts [] = ([], [], refl)
first-of_parts (zero ∷ ts) = ([], parts_of ts, refl)
first-of_parts (suc b ∷ ts) = in_front_first b (parts_of ts) (first-of_parts ts)

pub less_cmp : (a b : ℕ) → a < b → nat_cmp a b ≡ Less
less_cmp a b lt = ap (λ (t : Bool). cond t Less (cond (a == b) Equal Greater)) ((Decides-ltb a b).1 lt)

pub more_cmp : (a b : ℕ) → b < a → nat_cmp a b ≡ Greater
more_cmp a b lt = nat_cmp_total.antisymm a b ∙ ap ordering_reverse (less_cmp b a lt)

pub own_reverse : (o : Ordering) → o ≡ ordering_reverse o → o ≡ Equal
own_reverse Less e = absurd (cc e)
own_reverse Equal e = refl
own_reverse Greater e = absurd (cc e)

pub same_cmp : (a : ℕ) → nat_cmp a a ≡ Equal
same_cmp a = own_reverse (nat_cmp a a) (nat_cmp_total.antisymm a a)

suc_cmp : (a b : ℕ) → nat_cmp (suc a) (suc b) ≡ nat_cmp a b
suc_cmp a b =
    ⊎_elim (λ (l : a < b). less_cmp (suc a) (suc b) (omega (arith, l)) ∙ sym (less_cmp a b l))
    (λ (l : b ≤ a).
    ⊎_elim (λ (m : b < a). more_cmp (suc a) (suc b) (omega (arith, m)) ∙ sym (more_cmp a b m))
    (λ (m : a ≤ b).
    let e : a ≡ b = omega (arith, l, m) in
    subst (λ (x : ℕ). nat_cmp (suc a) (suc x) ≡ nat_cmp a x) e (same_cmp (suc a) ∙ sym (same_cmp a)))
    (either b a))
    (either a b)

then_assoc : (a b c : Ordering) → ordering_then (ordering_then a b) c ≡ ordering_then a (ordering_then b c)
then_assoc Less b c = refl
then_assoc Equal b c = refl
then_assoc Greater b c = refl

none_first : (xs : List Text) → (p : Text) × (ps : List Text) × (xs ≡ p ∷ ps) → slice_cmp (slice_cmp nat_cmp) [] xs ≡ Less
none_first xs (p, ps, e) = ap (slice_cmp (slice_cmp nat_cmp) []) e

none_last : (xs : List Text) → (p : Text) × (ps : List Text) × (xs ≡ p ∷ ps) → slice_cmp (slice_cmp nat_cmp) xs [] ≡ Greater
none_last xs (p, ps, e) = ap (λ (x : List Text). slice_cmp (slice_cmp nat_cmp) x []) e

empty_first : (ps : List Text) (b : ℕ) (xs : List Text) → (q : Text) × (qs : List Text) × (xs ≡ q ∷ qs) → parts_cmp ([] ∷ ps) (in_front b xs) ≡ Less
empty_first ps b xs (q, qs, e) = ap (λ (x : List Text). parts_cmp ([] ∷ ps) (in_front b x)) e

empty_last : (ps : List Text) (b : ℕ) (xs : List Text) → (q : Text) × (qs : List Text) × (xs ≡ q ∷ qs) → parts_cmp (in_front b xs) ([] ∷ ps) ≡ Greater
empty_last ps b xs (q, qs, e) = ap (λ (x : List Text). parts_cmp (in_front b x) ([] ∷ ps)) e

both_first : (a b : ℕ) (xs ys : List Text) → (p : Text) × (ps : List Text) × (xs ≡ p ∷ ps) → (q : Text) × (qs : List Text) × (ys ≡ q ∷ qs)
    → parts_cmp (in_front a xs) (in_front b ys) ≡ ordering_then (nat_cmp (suc a) (suc b)) (parts_cmp xs ys)
both_first a b xs ys (p, ps, e) (q, qs, f) =
    ap (λ (x : List Text). parts_cmp (in_front a x) (in_front b ys)) e
    ∙ (ap (λ (y : List Text). parts_cmp ((a ∷ p) ∷ ps) (in_front b y)) f
    ∙ (then_assoc (nat_cmp a b) (slice_cmp nat_cmp p q) (parts_cmp ps qs)
    ∙ (ap (λ (o : Ordering). ordering_then o (parts_cmp (p ∷ ps) (q ∷ qs))) (sym (suc_cmp a b))
    ∙ (ap (λ (x : List Text). ordering_then (nat_cmp (suc a) (suc b)) (parts_cmp x (q ∷ qs))) (sym e)
    ∙ ap (λ (y : List Text). ordering_then (nat_cmp (suc a) (suc b)) (parts_cmp xs y)) (sym f)))))

-- components stand in the order of their tokens
pub cmp-tokens : (ts us : List ℕ) → parts_cmp (parts_of ts) (parts_of us) ≡ slice_cmp nat_cmp ts us
cmp-tokens [] [] = refl
cmp-tokens [] (zero ∷ us) = none_first (parts_of us) (first-of_parts us)
cmp-tokens [] (suc b ∷ us) = empty_first [] b (parts_of us) (first-of_parts us)
cmp-tokens (zero ∷ ts) [] = none_last (parts_of ts) (first-of_parts ts)
cmp-tokens (suc a ∷ ts) [] = empty_last [] a (parts_of ts) (first-of_parts ts)
cmp-tokens (zero ∷ ts) (zero ∷ us) = cmp-tokens ts us ∙ ap (λ (o : Ordering). ordering_then o (slice_cmp nat_cmp ts us)) (sym (same_cmp 0))
cmp-tokens (zero ∷ ts) (suc b ∷ us) =
    empty_first (parts_of ts) b (parts_of us) (first-of_parts us) ∙ ap (λ (o : Ordering). ordering_then o (slice_cmp nat_cmp ts us)) (sym (less_cmp 0 (suc b) (omega arith)))
cmp-tokens (suc a ∷ ts) (zero ∷ us) =
    empty_last (parts_of us) a (parts_of ts) (first-of_parts ts) ∙ ap (λ (o : Ordering). ordering_then o (slice_cmp nat_cmp ts us)) (sym (more_cmp (suc a) 0 (omega arith)))
cmp-tokens (suc a ∷ ts) (suc b ∷ us) =
    both_first a b (parts_of ts) (parts_of us) (first-of_parts ts) (first-of_parts us)
    ∙ ap (ordering_then (nat_cmp (suc a) (suc b))) (cmp-tokens ts us)

pub name-order : (x y : Text) → parts_cmp (components x) (components y) ≡ slice_cmp nat_cmp (tokens x) (tokens y)
name-order x y = ap (λ (p : List Text). parts_cmp p (components y)) (parts-tokens x) ∙ (ap (parts_cmp (parts_of (tokens x))) (parts-tokens y) ∙ cmp-tokens (tokens x) (tokens y))

pub width-append : (ts us : List ℕ) → width (ts ++ us) ≡ width ts + width us
width-append [] us = omega arith
width-append (zero ∷ ts) us = let e = width-append ts us in omega (arith, e)
width-append (suc b ∷ ts) us = let e = width-append ts us in omega (arith, e)

pub width-tokens : (t : Text) → width (tokens t) ≡ length t
width-tokens [] = refl
width-tokens (a ∷ []) = refl
width-tokens (a ∷ b ∷ rest) = by_test (a == colon && b == colon) (width-tokens rest) (width-tokens (b ∷ rest))
  where
    by_test : (t : Bool) → width (tokens rest) ≡ length rest → width (tokens (b ∷ rest)) ≡ length (b ∷ rest) → width (cond t (0 ∷ tokens rest) (suc a ∷ tokens (b ∷ rest))) ≡ length (a ∷ b ∷ rest)
    by_test true below beside = omega (arith, below)
    by_test false below beside = omega (arith, beside)

-- common tokens in front change nothing
pub front-cmp : (ps xs ys : List ℕ) → slice_cmp nat_cmp (ps ++ xs) (ps ++ ys) ≡ slice_cmp nat_cmp xs ys
front-cmp [] xs ys = refl
front-cmp (p ∷ ps) xs ys = ap (λ (o : Ordering). ordering_then o (slice_cmp nat_cmp (ps ++ xs) (ps ++ ys))) (same_cmp p) ∙ front-cmp ps xs ys

between_step : (p q : ℕ) (ps xs ys zs : List ℕ) (o : Ordering) → nat_cmp p q ≡ o → ordering_then o (slice_cmp nat_cmp (ps ++ xs) ys) ≡ Less → ordering_then (ordering_reverse o) (slice_cmp nat_cmp ys (ps ++ zs)) ≡ Less
    → (slice_cmp nat_cmp (ps ++ xs) ys ≡ Less → slice_cmp nat_cmp ys (ps ++ zs) ≡ Less → (more : List ℕ) × (ys ≡ ps ++ more)) → (p ≡ q) × ((more : List ℕ) × (ys ≡ ps ++ more))
between_step p q ps xs ys zs Less e l m k = absurd (cc m)
between_step p q ps xs ys zs Greater e l m k = absurd (cc l)
between_step p q ps xs ys zs Equal e l m k = (equal_is p q e, k l m)
  where
    equal_is : (p q : ℕ) → nat_cmp p q ≡ Equal → p ≡ q
    equal_is p q e =
        ⊎_elim (λ (l : p < q). absurd (let f = sym (less_cmp p q l) ∙ e in cc f))
        (λ (l : q ≤ p). ⊎_elim (λ (m : q < p). absurd (let f = sym (more_cmp p q m) ∙ e in cc f)) (λ (m : p ≤ q). omega (arith, l, m)) (either q p))
        (either p q)

-- what stands between lists with the same tokens in front, has them in front
pub between : (ps xs ys zs : List ℕ) → slice_cmp nat_cmp (ps ++ xs) ys ≡ Less → slice_cmp nat_cmp ys (ps ++ zs) ≡ Less → (more : List ℕ) × (ys ≡ ps ++ more)
between [] xs ys zs l m = (ys, refl)
between (p ∷ ps) xs [] zs l m = absurd (cc l)
between (p ∷ ps) xs (q ∷ ys) zs l m =
    let (same, (more, e)) = between_step p q ps xs ys zs (nat_cmp p q) refl l
    (ap (λ (o : Ordering). ordering_then o (slice_cmp nat_cmp ys (ps ++ zs))) (sym (nat_cmp_total.antisymm q p)) ∙ m)
    (λ (l : slice_cmp nat_cmp (ps ++ xs) ys ≡ Less) (m : slice_cmp nat_cmp ys (ps ++ zs) ≡ Less). between ps xs ys zs l m) in
    (more, ap (λ (x : ℕ). x ∷ ys) (sym same) ∙ ap (λ (x : List ℕ). p ∷ x) e)

token_head : (a : ℕ) (ts : List ℕ) (q : ℕ) (qs : List ℕ) → a ∷ ts ≡ q ∷ qs → (a ≡ q) × (ts ≡ qs)
token_head a ts q qs e = (cc e, cc e)

-- the shorter of two beginnings is a beginning of the longer
pub shorter-front : (ps qs xs ys : List ℕ) → ps ++ xs ≡ qs ++ ys → width ps ≤ width qs → (more : List ℕ) × (qs ≡ ps ++ more)
shorter-front [] qs xs ys e l = (qs, refl)
shorter-front (zero ∷ ps) [] xs ys e l = absurd (omega (arith, l))
shorter-front (suc p ∷ ps) [] xs ys e l = absurd (omega (arith, l))
shorter-front (zero ∷ ps) (zero ∷ qs) xs ys e l =
    let (h, t) = token_head zero (ps ++ xs) zero (qs ++ ys) e in
    let (more, f) = shorter-front ps qs xs ys t (omega (arith, l)) in (more, ap (λ (x : List ℕ). zero ∷ x) f)
shorter-front (zero ∷ ps) (suc q ∷ qs) xs ys e l = let (h, t) = token_head zero (ps ++ xs) (suc q) (qs ++ ys) e in absurd (omega (arith, h))
shorter-front (suc p ∷ ps) (zero ∷ qs) xs ys e l = let (h, t) = token_head (suc p) (ps ++ xs) zero (qs ++ ys) e in absurd (omega (arith, h))
shorter-front (suc p ∷ ps) (suc q ∷ qs) xs ys e l =
    let (h, t) = token_head (suc p) (ps ++ xs) (suc q) (qs ++ ys) e in
    let (more, f) = shorter-front ps qs xs ys t (omega (arith, l)) in (more, ap (λ (x : ℕ). x ∷ qs) (sym h) ∙ ap (λ (x : List ℕ). suc p ∷ x) f)

-- behind a front of the tokens stand those of the bytes that are left
pub drop-tokens : (t : Text) (ps qs : List ℕ) → tokens t ≡ ps ++ qs → tokens (drop (width ps) t) ≡ qs
drop-tokens t [] qs e = e
drop-tokens [] (p ∷ ps) qs e = absurd (cc e)
drop-tokens (a ∷ []) (zero ∷ ps) qs e = let (h, r) = token_head (suc a) [] zero (ps ++ qs) e in absurd (omega (arith, h))
drop-tokens (a ∷ []) (suc p ∷ ps) qs e = let (h, r) = token_head (suc a) [] (suc p) (ps ++ qs) e in drop-tokens [] ps qs r
drop-tokens (a ∷ b ∷ rest) (zero ∷ ps) qs e = by_test (a == colon && b == colon) e (λ r. drop-tokens rest ps qs r)
  where
    by_test : (t : Bool) → cond t (0 ∷ tokens rest) (suc a ∷ tokens (b ∷ rest)) ≡ zero ∷ (ps ++ qs) → (tokens rest ≡ ps ++ qs → tokens (drop (width ps) rest) ≡ qs) → tokens (drop (width ps) rest) ≡ qs
    by_test true f k = k (token_head 0 (tokens rest) zero (ps ++ qs) f).1
    by_test false f k = let (h, r) = token_head (suc a) (tokens (b ∷ rest)) zero (ps ++ qs) f in absurd (omega (arith, h))
drop-tokens (a ∷ b ∷ rest) (suc p ∷ ps) qs e = by_test (a == colon && b == colon) e (λ r. drop-tokens (b ∷ rest) ps qs r)
  where
    by_test : (t : Bool) → cond t (0 ∷ tokens rest) (suc a ∷ tokens (b ∷ rest)) ≡ suc p ∷ (ps ++ qs) → (tokens (b ∷ rest) ≡ ps ++ qs → tokens (drop (width ps) (b ∷ rest)) ≡ qs) → tokens (drop (width ps) (b ∷ rest)) ≡ qs
    by_test true f k = let (h, r) = token_head 0 (tokens rest) (suc p) (ps ++ qs) f in absurd (omega (arith, h))
    by_test false f k = k (token_head (suc a) (tokens (b ∷ rest)) (suc p) (ps ++ qs) f).1

-- a front of the tokens are those of as many bytes
pub take-tokens : (t : Text) (ps qs : List ℕ) → tokens t ≡ ps ++ qs → tokens (take (width ps) t) ≡ ps
take-tokens t [] qs e = refl
take-tokens [] (p ∷ ps) qs e = absurd (cc e)
take-tokens (a ∷ []) (zero ∷ ps) qs e = let (h, r) = token_head (suc a) [] zero (ps ++ qs) e in absurd (omega (arith, h))
take-tokens (a ∷ []) (suc p ∷ ps) qs e =
    let (h, r) = token_head (suc a) [] (suc p) (ps ++ qs) e in single ps r (take-tokens [] ps qs r)
  where
    single : (ps : List ℕ) → [] ≡ ps ++ qs → tokens (take (width ps) []) ≡ ps → tokens (a ∷ take (width ps) []) ≡ suc p ∷ ps
    single [] r k = let (h, _) = token_head (suc a) [] (suc p) (ps ++ qs) e in ap (λ (x : ℕ). x ∷ []) h
    single (x ∷ xs) r k = absurd (cc r)
take-tokens (a ∷ b ∷ rest) (zero ∷ ps) qs e = by_test (a == colon && b == colon) refl e (λ r. take-tokens rest ps qs r)
  where
    by_test : (t : Bool) → (a == colon && b == colon) ≡ t → cond t (0 ∷ tokens rest) (suc a ∷ tokens (b ∷ rest)) ≡ zero ∷ (ps ++ qs) → (tokens rest ≡ ps ++ qs → tokens (take (width ps) rest) ≡ ps)
        → cond (a == colon && b == colon) (0 ∷ tokens (take (width ps) rest)) (suc a ∷ tokens (b ∷ take (width ps) rest)) ≡ zero ∷ ps
    by_test true is f k = ap (λ (x : Bool). cond x (0 ∷ tokens (take (width ps) rest)) (suc a ∷ tokens (b ∷ take (width ps) rest))) is ∙ ap (λ (x : List ℕ). 0 ∷ x) (k (token_head 0 (tokens rest) zero (ps ++ qs) f).1)
    by_test false is f k = let (h, r) = token_head (suc a) (tokens (b ∷ rest)) zero (ps ++ qs) f in absurd (omega (arith, h))
take-tokens (a ∷ b ∷ rest) (suc p ∷ ps) qs e = by_test (a == colon && b == colon) refl e (λ r. take-tokens (b ∷ rest) ps qs r)
  where
    some : (ps : List ℕ) → (a == colon && b == colon) ≡ false → tokens (take (width ps) (b ∷ rest)) ≡ ps → tokens (a ∷ take (width ps) (b ∷ rest)) ≡ suc a ∷ ps
    some [] is k = refl
    some (zero ∷ xs) is k = ap (λ (x : Bool). cond x (0 ∷ tokens (take (suc (width xs)) rest)) (suc a ∷ tokens (b ∷ take (suc (width xs)) rest))) is ∙ ap (λ (x : List ℕ). suc a ∷ x) k
    some (suc y ∷ xs) is k = ap (λ (x : Bool). cond x (0 ∷ tokens (take (width xs) rest)) (suc a ∷ tokens (b ∷ take (width xs) rest))) is ∙ ap (λ (x : List ℕ). suc a ∷ x) k

    by_test : (t : Bool) → (a == colon && b == colon) ≡ t → cond t (0 ∷ tokens rest) (suc a ∷ tokens (b ∷ rest)) ≡ suc p ∷ (ps ++ qs) → (tokens (b ∷ rest) ≡ ps ++ qs → tokens (take (width ps) (b ∷ rest)) ≡ ps)
        → tokens (a ∷ take (width ps) (b ∷ rest)) ≡ suc p ∷ ps
    by_test true is f k = let (h, r) = token_head 0 (tokens rest) (suc p) (ps ++ qs) f in absurd (omega (arith, h))
    by_test false is f k =
        let (h, r) = token_head (suc a) (tokens (b ∷ rest)) (suc p) (ps ++ qs) f in
        some ps is (k r) ∙ ap (λ (x : ℕ). x ∷ ps) h
