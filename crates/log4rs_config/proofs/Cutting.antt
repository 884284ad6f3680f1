-- Where the tokens of a name may be cut.
use Rattle.std.proofs.Common.{◌≡◌, ℕ, ◌<◌, ◌≤◌, ◌+◌, ◌-◌, ◌*◌, ◌/◌, zero, suc, Bool, true, false, cond, ◌&&◌, ◌==◌, ◌⊎◌, inl, inr, ⊎_elim, get_or, List, [], ◌∷◌, ◌++◌, length, take, drop, refl, sym, ap, ◌∙◌, arith, append_assoc, drop-drop}
use Rattle.std.proofs.lemmas.Bool.{eqb-true}
use Rattle.std.proofs.lemmas.List.{get_or-drop, get_or-take, length-drop, length-take-le}
use Rattle.log4rs_base.specs.Text.{Text}
use Rattle.log4rs_config.specs.Name.{colon}
use Rattle.log4rs_config.specs.Standing.{tokens, width, last_start, AreShared}
use Rattle.log4rs_config.proofs.Halving.{either}
use Rattle.log4rs_config.proofs.Tokens.{width-append, width-tokens}

-- not both colons: the byte in front of a place, and the one at it
abbrev pub Apart : Text → ℕ → Type 0
Apart x zero = Unit {0}
Apart x (suc k) = ((get_or x k 0 == colon) && (get_or x (suc k) 0 == colon)) ≡ false

apart_rest : (a b : ℕ) (rest : Text) (k : ℕ) → Apart (a ∷ b ∷ rest) (suc (suc k)) → Apart rest k
apart_rest a b rest zero e = tt
apart_rest a b rest (suc k) e = e

-- there the tokens may be cut
pub cut-tokens : (x : Text) (k : ℕ) → Apart x k → tokens x ≡ tokens (take k x) ++ tokens (drop k x)
cut-tokens [] zero e = refl
cut-tokens [] (suc k) e = refl
cut-tokens (a ∷ []) zero e = refl
cut-tokens (a ∷ []) (suc zero) e = refl
cut-tokens (a ∷ []) (suc (suc k)) e = refl
cut-tokens (a ∷ b ∷ rest) zero e = refl
cut-tokens (a ∷ b ∷ rest) (suc zero) e = ap (λ (t : Bool). cond t (0 ∷ tokens rest) (suc a ∷ tokens (b ∷ rest))) e
cut-tokens (a ∷ b ∷ rest) (suc (suc k)) e =
    by_test (a == colon && b == colon) (cut-tokens rest k (apart_rest a b rest k e)) (cut-tokens (b ∷ rest) (suc k) e)
  where
    by_test : (t : Bool) → tokens rest ≡ tokens (take k rest) ++ tokens (drop k rest) → tokens (b ∷ rest) ≡ tokens (b ∷ take k rest) ++ tokens (drop k rest)
        → cond t (0 ∷ tokens rest) (suc a ∷ tokens (b ∷ rest)) ≡ cond t (0 ∷ tokens (take k rest)) (suc a ∷ tokens (b ∷ take k rest)) ++ tokens (drop k rest)
    by_test true below beside = ap (λ (x : List ℕ). 0 ∷ x) below
    by_test false below beside = ap (λ (x : List ℕ). suc a ∷ x) beside

-- so many separators
abbrev pub zeros : ℕ → List ℕ
zeros zero = []
zeros (suc j) = 0 ∷ zeros j

pub width-zeros : (j : ℕ) → width (zeros j) ≡ j + j
width-zeros zero = refl
width-zeros (suc j) = let e = width-zeros j in omega (arith, e)

-- colons, two by two
pub colons-tokens : (x : Text) (j : ℕ) → ((i : ℕ) → i < j + j → get_or x i 0 ≡ colon) → tokens x ≡ zeros j ++ tokens (drop (j + j) x)
colons-tokens x zero all = refl
colons-tokens [] (suc j) all = absurd (let e = all 0 (omega arith) in cc e)
colons-tokens (a ∷ []) (suc j) all = absurd (let e = all 1 (omega arith) in cc e)
colons-tokens (a ∷ b ∷ rest) (suc j) all =
    let here : tokens (a ∷ b ∷ rest) ≡ 0 ∷ tokens rest = ap (λ (x : ℕ). cond (x == colon && b == colon) (0 ∷ tokens rest) (suc a ∷ tokens (b ∷ rest))) (all 0 (omega arith))
    ∙ ap (λ (y : ℕ). cond (colon == colon && y == colon) (0 ∷ tokens rest) (suc a ∷ tokens (b ∷ rest))) (all 1 (omega arith)) in
    let n : suc (suc (j + j)) ≡ suc j + suc j = omega arith in
    here ∙ (ap (λ (x : List ℕ). 0 ∷ x) (colons-tokens rest j (λ i l. all (suc (suc i)) (omega (arith, l))))
    ∙ ap (λ (m : ℕ). 0 ∷ (zeros j ++ tokens (drop m (a ∷ b ∷ rest)))) n)

same_taken : (x y : Text) (k : ℕ) → k ≤ length x → k ≤ length y → ((i : ℕ) → i < k → get_or x i 0 ≡ get_or y i 0) → take k x ≡ take k y
same_taken x y zero l m all = refl
same_taken [] y (suc k) l m all = absurd (omega (arith, l))
same_taken (a ∷ x) [] (suc k) l m all = absurd (omega (arith, m))
same_taken (a ∷ x) (b ∷ y) (suc k) l m all =
    ap (λ (c : ℕ). c ∷ take k x) (all 0 (omega arith)) ∙ ap (λ (z : Text). b ∷ z) (same_taken x y k (omega (arith, l)) (omega (arith, m)) (λ i j. all (suc i) (omega (arith, j))))

fails_by : (b : Bool) → (b ≡ true → ⊥) → b ≡ false
fails_by true f = absurd (f refl)
fails_by false f = refl

apart_drop : (name : Text) (from k : ℕ) → (k ≡ 0) ⊎ (get_or name (from + k - 1) 0 ≡ colon → ⊥) → Apart (drop from name) k
apart_drop name from zero e = tt
apart_drop name from (suc k) (inl e) = absurd (omega (arith, e))
apart_drop name from (suc k) (inr never) =
    let here : get_or name (from + suc k - 1) 0 ≡ get_or (drop from name) k 0 = ap (λ (i : ℕ). get_or name i 0) (omega arith) ∙ sym (get_or-drop from name k 0) in
    ap (λ (t : Bool). t && (get_or (drop from name) (suc k) 0 == colon))
    (fails_by (get_or (drop from name) k 0 == colon) (λ t. never (here ∙ eqb-true (get_or (drop from name) k 0) colon t)))

-- what begins with bytes that end in colons
behind_colons : (x : Text) (k j : ℕ) → Apart x k → ((i : ℕ) → i < j + j → get_or x (k + i) 0 ≡ colon) → tokens x ≡ tokens (take k x) ++ (zeros j ++ tokens (drop (k + (j + j)) x))
behind_colons x k j apart all =
    cut-tokens x k apart
    ∙ (ap (λ (ts : List ℕ). tokens (take k x) ++ ts) (colons-tokens (drop k x) j (λ i l. get_or-drop k x i 0 ∙ all i l))
    ∙ ap (λ (y : Text). tokens (take k x) ++ (zeros j ++ tokens y)) (drop-drop (j + j) k x))

whole_front : (name : Text) (from k j m : ℕ) (front : List ℕ) → tokens name ≡ front ++ tokens (drop from name) → (k ≡ 0) ⊎ (get_or name (from + k - 1) 0 ≡ colon → ⊥)
    → ((i : ℕ) → i < j + j → get_or name (from + k + i) 0 ≡ colon) → m ≡ from + k + (j + j)
    → tokens name ≡ (front ++ (tokens (take k (drop from name)) ++ zeros j)) ++ tokens (drop m name)
whole_front name from k j m front e first all is =
    let x = drop from name in
    let t = tokens (take k x) in
    let at : drop (k + (j + j)) x ≡ drop m name = drop-drop (k + (j + j)) from name ∙ ap (λ (i : ℕ). drop i name) (omega (arith, is)) in
    let colons : (i : ℕ) → i < j + j → get_or x (k + i) 0 ≡ colon = λ i l. get_or-drop from name (k + i) 0 ∙ (ap (λ (n : ℕ). get_or name n 0) (omega arith) ∙ all i l) in
    e ∙ (ap (λ (ts : List ℕ). front ++ ts) (behind_colons x k j (apart_drop name from k first) colons ∙ (ap (λ (y : Text). t ++ (zeros j ++ tokens y)) at ∙ sym (append_assoc t (zeros j) (tokens (drop m name)))))
    ∙ sym (append_assoc front (t ++ zeros j) (tokens (drop m name))))

-- bytes that are the same, up to two by two of the colons at their end
pub further-shared : (name target : Text) (from k j end m : ℕ) → AreShared name target from → from + k + (j + j) ≤ end → end ≤ length name → end ≤ length target
    → ((i : ℕ) → from ≤ i → i < end → get_or name i 0 ≡ get_or target i 0) → ((i : ℕ) → from + k ≤ i → i < end → get_or name i 0 ≡ colon)
    → (k ≡ 0) ⊎ (get_or name (from + k - 1) 0 ≡ colon → ⊥) → m ≡ from + k + (j + j) → AreShared name target m
further-shared name target from k j end m (front, n, t, b) l en et same colons first is =
    let x = drop from name in
    let y = drop from target in
    let lx = length-drop from name in
    let ly = length-drop from target in
    let taken : take k x ≡ take k y =
    same_taken x y k (omega (arith, lx, en, l)) (omega (arith, ly, et, l)) (λ i s. get_or-drop from name i 0 ∙ (same (from + i) (omega arith) (omega (arith, l, s)) ∙ sym (get_or-drop from target i 0))) in
    let there : (k ≡ 0) ⊎ (get_or target (from + k - 1) 0 ≡ colon → ⊥) = other k (omega (arith, l)) first in
    let w = width-append front (tokens (take k x) ++ zeros j) in
    let v = width-append (tokens (take k x)) (zeros j) in
    let u = width-tokens (take k x) in
    let z = width-zeros j in
    let lt = length-take-le k x (omega (arith, lx, en, l)) in (
      front ++ (tokens (take k x) ++ zeros j),
      whole_front name from k j m front n first (λ i s. colons (from + k + i) (omega arith) (omega (arith, l, s))) is,
      whole_front target from k j m front t there (λ i s. sym (same (from + k + i) (omega arith) (omega (arith, l, s))) ∙ colons (from + k + i) (omega arith) (omega (arith, l, s))) is
          ∙ ap (λ (z : Text). (front ++ (tokens z ++ zeros j)) ++ tokens (drop m target)) (sym taken),
      omega (arith, is, b, w, v, u, z, lt),
    )
  where
    other : (k : ℕ) → from + k ≤ end → (k ≡ 0) ⊎ (get_or name (from + k - 1) 0 ≡ colon → ⊥) → (k ≡ 0) ⊎ (get_or target (from + k - 1) 0 ≡ colon → ⊥)
    other zero i f = inl refl
    other (suc k) i (inl z) = absurd (omega (arith, z))
    other (suc k) i (inr never) = inr (λ c. never (same (from + suc k - 1) (omega arith) (omega (arith, i)) ∙ c))

-- bytes that are the same as eight others
pub word-same : (name target : Text) (at : ℕ) → take 8 (drop at name) ≡ take 8 (drop at target) → (i : ℕ) → at ≤ i → i < at + 8 → get_or name i 0 ≡ get_or target i 0
word-same name target at e i l m =
    let n : i ≡ at + (i - at) = omega (arith, l) in
    ap (λ (k : ℕ). get_or name k 0) n ∙ (sym (get_or-drop at name (i - at) 0) ∙ (sym (get_or-take 8 (drop at name) (i - at) 0 (omega (arith, l, m))) ∙ (ap (λ (x : Text). get_or x (i - at) 0) e
    ∙ (get_or-take 8 (drop at target) (i - at) 0 (omega (arith, l, m)) ∙ (get_or-drop at target (i - at) 0 ∙ ap (λ (k : ℕ). get_or target k 0) (sym n))))))

-- the last component of what ends in a byte that is no part of a separator
last_start-append : (at last : ℕ) (ts us : List ℕ) → last_start at last (ts ++ us) ≡ last_start (at + width ts) (last_start at last ts) us
last_start-append at last [] us = ap (λ (n : ℕ). last_start n last us) (omega arith)
last_start-append at last (zero ∷ ts) us = last_start-append (at + 2) (at + 2) ts us ∙ ap (λ (n : ℕ). last_start n (last_start (at + 2) (at + 2) ts) us) (omega arith)
last_start-append at last (suc b ∷ ts) us = last_start-append (at + 1) last ts us ∙ ap (λ (n : ℕ). last_start n (last_start (at + 1) last ts) us) (omega arith)

one_left : (x : Text) (k : ℕ) → length x ≡ suc k → tokens (drop k x) ≡ suc (get_or x k 0) ∷ []
one_left [] k e = absurd (omega (arith, e))
one_left (a ∷ []) zero e = refl
one_left (a ∷ b ∷ x) zero e = absurd (omega (arith, e))
one_left (a ∷ x) (suc k) e = one_left x k (omega (arith, e))

start_before : (x : Text) (k : ℕ) → length x ≡ suc k → Apart x k → last_start 0 0 (tokens x) ≡ last_start 0 0 (tokens (take k x))
start_before x k e apart =
    ap (last_start 0 0) (cut-tokens x k apart ∙ ap (λ (ts : List ℕ). tokens (take k x) ++ ts) (one_left x k e)) ∙ last_start-append 0 0 (tokens (take k x)) (suc (get_or x k 0) ∷ [])

last_start-zeros : (at last j : ℕ) → last_start at last (zeros (suc j)) ≡ at + (suc j + suc j)
last_start-zeros at last zero = omega arith
last_start-zeros at last (suc j) = let e = last_start-zeros (at + 2) (at + 2) j in omega (arith, e)

short_rest : (at last : ℕ) (x : Text) → length x ≤ 1 → last_start at last (tokens x) ≡ last
short_rest at last [] l = refl
short_rest at last (a ∷ []) l = refl
short_rest at last (a ∷ b ∷ x) l = absurd (omega (arith, l))

-- two colons or more at the end
pub start-colons : (x : Text) (k j : ℕ) → Apart x k → ((i : ℕ) → i < suc j + suc j → get_or x (k + i) 0 ≡ colon) → k + (suc j + suc j) ≤ length x → length x ≤ k + (suc j + suc j) + 1
    → last_start 0 0 (tokens x) ≡ k + (suc j + suc j)
start-colons x k j apart all l m =
    let t = tokens (take k x) in
    let rest = drop (k + (suc j + suc j)) x in
    let w = width-tokens (take k x) in
    let lt = length-take-le k x (omega (arith, l)) in
    let at : width t ≡ k = omega (arith, w, lt) in
    let ld = length-drop (k + (suc j + suc j)) x in
    ap (last_start 0 0) (behind_colons x k (suc j) apart all)
    ∙ (last_start-append 0 0 t (zeros (suc j) ++ tokens rest)
    ∙ (last_start-append (0 + width t) (last_start 0 0 t) (zeros (suc j)) (tokens rest)
    ∙ (short_rest (0 + width t + width (zeros (suc j))) (last_start (0 + width t) (last_start 0 0 t) (zeros (suc j))) rest (omega (arith, ld, m))
    ∙ (last_start-zeros (0 + width t) (last_start 0 0 t) j ∙ omega (arith, at)))))

both : (a b : Bool) → b ≡ false → (a && b) ≡ false
both true b e = e
both false b e = refl

ends : (begin k : ℕ) → begin ≤ suc (suc k) → suc (suc k) - begin < 2 → (begin ≡ suc (suc k)) ⊎ (begin ≡ suc k)
ends begin k be few = ⊎_elim (λ (l : begin < suc (suc k)). inr (omega (arith, l, few))) (λ (l : suc (suc k) ≤ begin). inl (omega (arith, l, be))) (either begin (suc (suc k)))

take_twice : (k m : ℕ) (x : Text) → k ≤ m → take k (take m x) ≡ take k x
take_twice zero m x l = refl
take_twice (suc k) zero x l = absurd (omega (arith, l))
take_twice (suc k) (suc m) [] l = refl
take_twice (suc k) (suc m) (a ∷ x) l = ap (λ (y : Text). a ∷ y) (take_twice k m x (omega (arith, l)))

-- two colons or more in front of a place
pub start-more : (name : Text) (end begin : ℕ) → end ≤ length name → begin ≤ end → ((i : ℕ) → begin ≤ i → i < end → get_or name i 0 ≡ colon)
    → (begin ≡ 0) ⊎ (get_or name (begin - 1) 0 ≡ colon → ⊥) → 2 ≤ end - begin → begin + (end - begin) / 2 * 2 ≡ last_start 0 0 (tokens (take end name))
start-more name end begin l be colons first two =
    let x = take end name in
    let j : ℕ = (end - begin) / 2 - 1 in
    let n : (end - begin) / 2 * 2 ≡ suc j + suc j = omega (arith, two) in
    let lx = length-take-le end name l in
    let apart : Apart x begin = first_apart begin be first in
    ap (λ (m : ℕ). begin + m) n
    ∙ sym (start-colons x begin j apart (λ i s. get_or-take end name (begin + i) 0 (omega (arith, s, n, be)) ∙ colons (begin + i) (omega arith) (omega (arith, s, n, be)))
    (omega (arith, lx, n, be)) (omega (arith, lx, n, be)))
  where
    first_apart : (k : ℕ) → k ≤ end → (k ≡ 0) ⊎ (get_or name (k - 1) 0 ≡ colon → ⊥) → Apart (take end name) k
    first_apart zero i f = tt
    first_apart (suc k) i (inl e) = absurd (omega (arith, e))
    first_apart (suc k) i (inr never) =
        apart_drop (take end name) 0 (suc k) (inr (λ e. never (ap (λ (i : ℕ). get_or name i 0) {x = suc k - 1} {y = 0 + suc k - 1} (omega arith) ∙ (sym (get_or-take end name (0 + suc k - 1) 0 (omega (arith, i))) ∙ e))))

-- fewer than two
pub start-fewer : (name : Text) (end begin : ℕ) → 0 < end → end ≤ length name → begin ≤ end → (begin ≡ 0) ⊎ (get_or name (begin - 1) 0 ≡ colon → ⊥) → end - begin < 2
    → last_start 0 0 (tokens (take end name)) ≡ last_start 0 0 (tokens (take (end - 1) name))
start-fewer name zero begin some l be first few = absurd (omega (arith, some))
start-fewer name (suc k) begin some l be first few =
    let x = take (suc k) name in
    let lx = length-take-le (suc k) name l in
    start_before x k lx (apart k begin l be few first) ∙ (ap (λ (y : Text). last_start 0 0 (tokens y)) (taken k) ∙ ap (λ (m : ℕ). last_start 0 0 (tokens (take m name))) {x = k} {y = suc k - 1} (omega arith))
  where
    taken : (k : ℕ) → take k (take (suc k) name) ≡ take k name
    taken k = take_twice k (suc k) name (omega arith)

    second : (k : ℕ) → (get_or name (suc k) 0 ≡ colon → ⊥) → Apart (take (suc (suc k)) name) (suc k)
    second k never = both (get_or (take (suc (suc k)) name) k 0 == colon) (get_or (take (suc (suc k)) name) (suc k) 0 == colon)
        (fails_by (get_or (take (suc (suc k)) name) (suc k) 0 == colon) (λ t. never (sym (get_or-take (suc (suc k)) name (suc k) 0 (omega arith)) ∙ eqb-true (get_or (take (suc (suc k)) name) (suc k) 0) colon t)))

    apart : (k begin : ℕ) → suc k ≤ length name → begin ≤ suc k → suc k - begin < 2 → (begin ≡ 0) ⊎ (get_or name (begin - 1) 0 ≡ colon → ⊥) → Apart (take (suc k) name) k
    apart zero begin l be few first = tt
    apart (suc k) begin l be few (inl e) = absurd (omega (arith, few, e))
    apart (suc k) begin l be few (inr never) =
        ⊎_elim (λ (e : begin ≡ suc (suc k)). second k (λ c. never (ap (λ (i : ℕ). get_or name i 0) (omega (arith, e)) ∙ c)))
        (λ (e : begin ≡ suc k). apart_drop (take (suc (suc k)) name) 0 (suc k) (inr (λ c. never (ap (λ (i : ℕ). get_or name i 0) {x = begin - 1} {y = 0 + suc k - 1} (omega (arith, e)) ∙ (sym (get_or-take (suc (suc k)) name (0 + suc k - 1) 0 (omega arith)) ∙ c)))))
        (ends begin k be few)
