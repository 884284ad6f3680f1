-- Names that begin alike stand as their numbers do.
use Rattle.std.proofs.Common.{◌≡◌, ℕ, ◌<◌, ◌≤◌, ◌+◌, ◌-◌, ◌*◌, ◌^◌, zero, suc, Bool, true, false, cond, ◌&&◌, ◌==◌, List, [], ◌∷◌, ◌++◌, Option, Some, None, All, map, length, take, drop, get_or, slice_get, refl, sym, ap, ◌∙◌, subst, arith, append_assoc, ◌⊎◌, inl, inr, ⊎_elim, drop-drop, length-drop}
use Rattle.std.specs.declared.cmp.Ordering.{Ordering}
use Rattle.std.specs.declared.cmp.Ordering.TheVariants.{Less, Equal, Greater}
use Rattle.std.specs.Option.{option_map}
use Rattle.std.specs.Ordering.{nat_cmp, ordering_then, ordering_reverse}
use Rattle.std.specs.Cmp.Lexicographic.{slice_cmp}
use Rattle.std.proofs.Math.Nat.{pow-succ', one-le-pow, mul-le-mul_left, mul-le-mul_right}
use Rattle.std.proofs.lemmas.List.{append-nil, drop_all, get_or-map, length-map, length-take-le, map-append, take-append-drop, take_more}
use Rattle.std.proofs.lemmas.List.Elements.{All-push}
use Rattle.std.proofs.lemmas.Simd.{map-map}
use Rattle.std.proofs.lemmas.Option.{slice_get-map, slice_get-get_or, slice_get_within, get_or_from_slice_get}
use Rattle.log4rs_base.specs.Text.{Text}
use Rattle.log4rs_config.specs.Name.{colon, components}
use Rattle.log4rs_config.specs.declared.order.Standing.{Standing}
use Rattle.log4rs_config.specs.declared.order.Standing.TheVariants.{Same, Begins, Before, Behind}
use Rattle.log4rs_config.specs.Digests.{digest_of, digest_behind, BeginsWith}
use Rattle.log4rs_config.specs.Order.{parts_cmp, Rise}
use Rattle.log4rs_config.specs.Standing.{tokens, next, width, AreShared, Stands}
use Rattle.log4rs_config.specs.Walk.{longest, name_at}
use Rattle.log4rs_config.proofs.Halving.{total, either}
use Rattle.log4rs_config.proofs.Ordered.{there_mapped}
use Rattle.log4rs_config.proofs.Seeking.{longest-skips, none_at, same_heads, taken_not_greater}
use Rattle.log4rs_config.proofs.Standings.{less-shared, middle-shares, parted, shared-within, standing-order}
use Rattle.log4rs_config.proofs.Tokens.{less_cmp, same_cmp, name-order, width-append, width-tokens, front-cmp, shorter-front, drop-tokens, take-tokens}

-- each token has its place in a number
abbrev Small : List ℕ → Type 0
Small [] = Unit {0}
Small (t ∷ ts) = (t < 511) × Small ts

digest-bound : (n : ℕ) (ts : List ℕ) → Small ts → digest_of n ts < 512 ^ n
digest-bound zero ts s = let e = one-le-pow zero 512 (omega arith) in omega (arith, e)
digest-bound (suc n) [] s = let e = one-le-pow (suc n) 512 (omega arith) in omega (arith, e)
digest-bound (suc n) (t ∷ ts) (l, s) =
    let rest = digest-bound n ts s in
    let more : suc t * 512 ^ n ≤ 511 * 512 ^ n = mul-le-mul_right (512 ^ n) (omega (arith, l)) in
    let whole = pow-succ' 512 n in
    omega (arith, rest, more, whole)

digest-order : (n : ℕ) (ts us : List ℕ) → Small us → digest_of n ts < digest_of n us → slice_cmp nat_cmp ts us ≡ Less
digest-order zero ts us s l = absurd (omega (arith, l))
digest-order (suc n) [] [] s l = absurd (omega (arith, l))
digest-order (suc n) (t ∷ ts) [] s l = absurd (omega (arith, l))
digest-order (suc n) [] (u ∷ us) s l = refl
digest-order (suc n) (t ∷ ts) (u ∷ us) (_, s) l =
    ⊎_elim (λ (m : t < u). first (nat_cmp t u) Less (less_cmp t u m) refl)
    (λ (m : u ≤ t).
    ⊎_elim (λ (k : u < t). absurd (too_much k)) (λ (k : t ≤ u). let e : t ≡ u = omega (arith, m, k) in
    first (nat_cmp t u) Equal (ap (nat_cmp t) (sym e) ∙ same_cmp t) (digest-order n ts us s (same e))) (either u t))
    (either t u)
  where
    first : (o p : Ordering) → o ≡ p → ordering_then p (slice_cmp nat_cmp ts us) ≡ Less → ordering_then o (slice_cmp nat_cmp ts us) ≡ Less
    first o p e f = ap (λ (q : Ordering). ordering_then q (slice_cmp nat_cmp ts us)) e ∙ f

    too_much : u < t → ⊥
    too_much k =
        let bound = digest-bound n us s in
        let more : suc (suc u) * 512 ^ n ≤ suc t * 512 ^ n = mul-le-mul_right (512 ^ n) (omega (arith, k)) in
        omega (arith, l, bound, more)

    same : t ≡ u → digest_of n ts < digest_of n us
    same e = let f = ap (λ (x : ℕ). suc x * 512 ^ n) e in omega (arith, l, f)

digest-none : (n : ℕ) → digest_of n [] ≡ 0
digest-none zero = refl
digest-none (suc n) = refl

digest-first : (n : ℕ) (ts : List ℕ) → digest_of (suc n) ts ≡ next ts * 512 ^ n + digest_of n (drop 1 ts)
digest-first n [] = let e = digest-none n in omega (arith, e)
digest-first n (t ∷ ts) = refl

-- one token more in a number
digest-grow : (value token left total : ℕ) (ts : List ℕ) → 0 < left → value * 512 ^ left + digest_of left ts ≡ total → token ≡ next ts
    → (value * 512 + token) * 512 ^ (left - 1) + digest_of (left - 1) (drop 1 ts) ≡ total
digest-grow value token zero total ts l e is = absurd (omega (arith, l))
digest-grow value token (suc left) total ts l e is =
    let n : suc left - 1 ≡ left = omega arith in
    subst (λ (k : ℕ). (value * 512 + token) * 512 ^ k + digest_of k (drop 1 ts) ≡ total) (sym n)
    (let first = digest-first left ts in
    let whole = ap (λ (p : ℕ). value * p) (pow-succ' 512 left) in
    let same = ap (λ (x : ℕ). x * 512 ^ left) is in
    omega (arith, e, first, whole, same))

digest-push : (name : Text) (value at more token left total : ℕ) → 0 < left → value * 512 ^ left + digest_of left (tokens (drop at name)) ≡ total
    → token ≡ next (tokens (drop at name)) → tokens (drop more name) ≡ drop 1 (tokens (drop at name))
    → (value * 512 + token) * 512 ^ (left - 1) + digest_of (left - 1) (tokens (drop more name)) ≡ total
digest-push name value at more token left total l e is behind =
    subst (λ (ts : List ℕ). (value * 512 + token) * 512 ^ (left - 1) + digest_of (left - 1) ts ≡ total) (sym behind) (digest-grow value token left total (tokens (drop at name)) l e is)

small-tokens : (t : Text) → ((i : ℕ) → get_or t i 0 < 256) → Small (tokens t)
small-tokens [] all = tt
small-tokens (a ∷ []) all = let l : a < 256 = all 0 in (omega (arith, l), tt)
small-tokens (a ∷ b ∷ rest) all = by_test (a == colon && b == colon) (small-tokens rest (λ i. all (suc (suc i)))) (small-tokens (b ∷ rest) (λ i. all (suc i)))
  where
    by_test : (t : Bool) → Small (tokens rest) → Small (tokens (b ∷ rest)) → Small (cond t (0 ∷ tokens rest) (suc a ∷ tokens (b ∷ rest)))
    by_test true below beside = (omega arith, below)
    by_test false below beside = (let l : a < 256 = all 0 in omega (arith, l), beside)

-- it fits
pub digest-fits : (name : Text) (value token left : ℕ) (ts : List ℕ) → ((i : ℕ) → get_or name i 0 < 256) → 0 < left
    → value * 512 ^ left + digest_of left ts ≡ digest_of 6 (tokens name) → token ≡ next ts → value * 512 + token < 2 ^ 63
digest-fits name value token left ts all l e is =
    let bound = digest-bound 6 (tokens name) (small-tokens name all) in
    let some : 1 ≤ 512 ^ (left - 1) = one-le-pow (left - 1) 512 (omega arith) in
    let more = mul-le-mul_left (value * 512 + token) some in
    let grown = digest-grow value token left (digest_of 6 (tokens name)) ts l e is in
    omega (arith, grown, bound, more)

next_is : (ts : List ℕ) (p : ℕ) → next ts ≡ suc p → ts ≡ p ∷ drop 1 ts
next_is [] p e = absurd (omega (arith, e))
next_is (t ∷ ts) p e = let same : t ≡ p = omega (arith, e) in ap (λ (x : ℕ). x ∷ ts) same

behind_end : (ts : List ℕ) → next ts ≡ 0 → ts ≡ drop 1 ts
behind_end [] e = refl
behind_end (t ∷ ts) e = absurd (omega (arith, e))

behind_token : (name : Text) (at more p : ℕ) → at ≤ length name → next (tokens (drop at name)) ≡ suc p → more ≡ at + width (p ∷ [])
    → (more ≤ length name) × (tokens (drop more name) ≡ drop 1 (tokens (drop at name)))
behind_token name at more p l e n =
    let ts = tokens (drop at name) in
    let first : ts ≡ (p ∷ []) ++ drop 1 ts = next_is ts p e in
    let wide = ap width first in
    let all = width-append (p ∷ []) (drop 1 ts) in
    let long = width-tokens (drop at name) in
    let short = length-drop at name in
    let sum : at + width (p ∷ []) ≡ more = omega (arith, n) in (
      omega (arith, n, wide, all, long, short, l),
      ap (λ (k : ℕ). tokens (drop k name)) (sym sum) ∙ (ap tokens (sym (drop-drop (width (p ∷ [])) at name)) ∙ drop-tokens (drop at name) (p ∷ []) (drop 1 ts) first),
    )

-- how many bytes what `next` says takes
abbrev pub bytes_of : ℕ → ℕ
bytes_of zero = 0
bytes_of (suc p) = width (p ∷ [])

pub bytes-one : (token : ℕ) → 1 < token → bytes_of token ≡ 1
bytes-one zero l = absurd (omega (arith, l))
bytes-one (suc zero) l = absurd (omega (arith, l))
bytes-one (suc (suc p)) l = refl

behind : (name : Text) (at more token : ℕ) → at ≤ length name → token ≡ next (tokens (drop at name)) → more ≡ at + bytes_of token
    → (more ≤ length name) × (tokens (drop more name) ≡ drop 1 (tokens (drop at name)))
behind name at more zero l is n =
    let same : more ≡ at = omega (arith, n) in
    (omega (arith, same, l), ap (λ (k : ℕ). tokens (drop k name)) same ∙ behind_end (tokens (drop at name)) (sym is))
behind name at more (suc p) l is n = behind_token name at more p l (sym is) n

-- one token further
pub digest-further : (name : Text) (value at more token left total : ℕ) → 0 < left → at ≤ length name → value * 512 ^ left + digest_of left (tokens (drop at name)) ≡ total
    → token ≡ next (tokens (drop at name)) → more ≡ at + bytes_of token
    → (more ≤ length name) × ((value * 512 + token) * 512 ^ (left - 1) + digest_of (left - 1) (tokens (drop more name)) ≡ total)
digest-further name value at more token left total some l e is n =
    let (within, same) = behind name at more token l is n in (within, digest-push name value at more token left total some e is same)

-- bytes wherever they are asked for
bytes-within : (t : Text) → All (λ b. b < 256) t → (i : ℕ) → get_or t i 0 < 256
bytes-within [] all i = omega arith
bytes-within (a ∷ t) all zero = all 0 0 (omega arith)
bytes-within (a ∷ t) all (suc i) = bytes-within t (λ k d l. all (suc k) d (omega (arith, l))) i

pub all-bytes : (t : Text) → ((i : ℕ) → get_or t i 0 < 256) → All (λ b. b < 256) t
all-bytes [] each k d l = absurd (omega (arith, l))
all-bytes (a ∷ t) each zero d l = each 0
all-bytes (a ∷ t) each (suc k) d l = all-bytes t (λ i. each (suc i)) k d (omega (arith, l))

small-rest : (front rest : List ℕ) → Small (front ++ rest) → Small rest
small-rest [] rest s = s
small-rest (t ∷ ts) rest (_, s) = small-rest ts rest s

-- what begins with the same text stands as the numbers do
pub digest-less : (name target common : Text) → BeginsWith common name → BeginsWith common target → All (λ b. b < 256) target
    → digest_behind (length common) name < digest_behind (length common) target → parts_cmp (components name) (components target) ≡ Less
digest-less name target common n t bytes less =
    let xs = tokens (drop (length common) name) in
    let ys = tokens (drop (length common) target) in
    let small = small-rest (tokens common) ys (subst Small t (small-tokens target (bytes-within target bytes))) in
    name-order name target
    ∙ (ap (λ (x : List ℕ). slice_cmp nat_cmp x (tokens target)) n
    ∙ (ap (slice_cmp nat_cmp (tokens common ++ xs)) t
    ∙ (front-cmp (tokens common) xs ys
    ∙ digest-order 6 xs ys small less)))

pub digest-more : (name target common : Text) → BeginsWith common name → BeginsWith common target → All (λ b. b < 256) name
    → digest_behind (length common) target < digest_behind (length common) name → parts_cmp (components name) (components target) ≡ Greater
digest-more name target common n t bytes less = total.antisymm (components name) (components target) ∙ ap ordering_reverse (digest-less target name common t n bytes less)

-- what begins with the same text shares it
pub begins-shared : (name target common : Text) → BeginsWith common name → BeginsWith common target → AreShared name target (length common)
begins-shared name target common n t = (tokens common, n, t, sym (width-tokens common))

-- who shares so much with a name begins as it does
shared-begins : (name other : Text) (s : ℕ) → AreShared name other s → BeginsWith (take s other) name
shared-begins name other s (front, n, o, b) =
    let (_, inside) = shared-within name other s (front, n, o, b) in
    let taken : tokens (take s other) ≡ front = ap (λ (k : ℕ). tokens (take k other)) b ∙ take-tokens other front (tokens (drop s other)) o in
    n ∙ (ap (λ (x : List ℕ). x ++ tokens (drop s name)) (sym taken) ∙ ap (λ (k : ℕ). tokens (take s other) ++ tokens (drop k name)) (sym (length-take-le s other inside)))

-- all begin with what the first and the last share
all-begin : (names : List Text) (first last : Text) (s : ℕ) → Rise (map components names) → slice_get names 0 ≡ Some first → slice_get names (length names - 1) ≡ Some last
    → AreShared first last s → All (BeginsWith (take s last)) names
all-begin names first last s rise f l (front, n, t, b) k d lt = shared-begins (get_or names k d) last s (by_place (either 0 k) (either k (length names - 1)))
  where
    is : slice_get names k ≡ Some (get_or names k d)
    is = slice_get-get_or names k d lt

    key : (i : ℕ) (x : Text) → slice_get names i ≡ Some x → slice_get (map components names) i ≡ Some (components x)
    key i x e = slice_get-map components names i ∙ ap (λ (o : Option Text). option_map components o) e

    by_place : (0 < k) ⊎ (k ≤ 0) → (k < length names - 1) ⊎ (length names - 1 ≤ k) → AreShared (get_or names k d) last s
    by_place (inr z) _ =
        let e : k ≡ 0 = omega (arith, z) in
        let same : get_or names k d ≡ first = cc (is, f, ap (slice_get names) e) in subst (λ (x : Text). AreShared x last s) (sym same) (front, n, t, b)
    by_place (inl some) (inr m) =
        let e : k ≡ length names - 1 = omega (arith, m, lt) in
        let same : get_or names k d ≡ last = cc (is, l, ap (slice_get names) e) in subst (λ (x : Text). AreShared x last s) (sym same) (front, t, t, b)
    by_place (inl some) (inl m) =
        middle-shares first (get_or names k d) last last s s (front, n, t, b) (front, t, t, b) (omega arith)
        (rise 0 k (components first) (components (get_or names k d)) some (key 0 first f) (key k (get_or names k d) is))
        (rise k (length names - 1) (components (get_or names k d)) (components last) m (key k (get_or names k d) is) (key (length names - 1) last l))

-- no longer than a name that begins with it
pub begins-within : (common name : Text) → BeginsWith common name → length common ≤ length name
begins-within common name is =
    let w = ap width is in omega (arith, w, width-tokens common, width-tokens name, width-append (tokens common) (tokens (drop (length common) name)))

next_append : (xs ys : List ℕ) → 0 < next xs → next (xs ++ ys) ≡ next xs
next_append [] ys l = absurd (omega (arith, l))
next_append (x ∷ xs) ys l = refl

next_some : (ts : List ℕ) → 0 < width ts → 0 < next ts
next_some [] l = absurd (omega (arith, l))
next_some (t ∷ ts) l = omega arith

-- a name that begins with a text parts from a target where the text does
parts_there : (common name target : Text) (s : ℕ) → BeginsWith common name → AreShared common target s → 0 < next (tokens (drop s common))
    → AreShared name target s × (next (tokens (drop s name)) ≡ next (tokens (drop s common)))
parts_there common name target s is (front, c, t, b) some =
    let rest = tokens (drop s common) in
    let more = tokens (drop (length common) name) in
    let all : tokens name ≡ front ++ (rest ++ more) = is ∙ (ap (λ (x : List ℕ). x ++ more) c ∙ append_assoc front rest more) in
    let left : tokens (drop s name) ≡ rest ++ more = ap (λ (k : ℕ). tokens (drop k name)) b ∙ drop-tokens name front (rest ++ more) all in
    ((front, all ∙ ap (λ (x : List ℕ). front ++ x) (sym left), t, b), ap next left ∙ next_append rest more some)

-- a name that parts from the target before its end does not begin it
unlike : (standing : Standing) (name target : Text) (s : ℕ) → AreShared name target s → Stands standing (next (tokens (drop s name))) (next (tokens (drop s target)))
    → 0 < next (tokens (drop s name)) → (m : ℕ) → components name ≡ take m (components target) → ⊥
unlike Same name target s are (z, _) some m e = omega (arith, z, some)
unlike Begins name target s are (z, _) some m e = omega (arith, z, some)
unlike Before name target s are (l, big) some m e =
    let p = parted name target s are l big in
    let rest = drop m (components target) in
    let whole : components target ≡ p.common ++ (p.part ∷ (p.parts ++ rest)) =
    sym (take-append-drop m (components target)) ∙ (ap (λ (x : List Text). x ++ rest) (sym e ∙ p.left) ∙ append_assoc p.common (p.part ∷ p.parts) rest) in
    p.apart (same_heads p.common p.part p.other (p.parts ++ rest) p.others (sym whole ∙ p.right))
unlike Behind name target s are l some m e =
    taken_not_greater m (components target) (ap (λ (x : List Text). parts_cmp x (components target)) (sym e) ∙ standing-order name target s Behind are l)

-- nobody that begins with a text governs a target that does not
none-governs : (standing : Standing) (names : List Text) (common target : Text) (s : ℕ) → All (BeginsWith common) names → AreShared common target s
    → Stands standing (next (tokens (drop s common))) (next (tokens (drop s target))) → (s ≡ length common → ⊥) → longest (name_at names) None (components target) ≡ None
none-governs standing names common target s all are stands other =
    let t = components target in
    let (inside, _) = shared-within common target s are in
    let some : 0 < next (tokens (drop s common)) = next_some (tokens (drop s common)) (omega (arith, inside, other, width-tokens (drop s common), length-drop s common)) in
    longest-skips (name_at names) t 0 (omega arith)
    (λ m l n. none_at names (take m t) (λ j k at e.
    let begins : BeginsWith common k = subst (BeginsWith common) (get_or_from_slice_get names j k k at) (all j k (slice_get_within names j k at)) in
    let (shared, same) = parts_there common k target s begins are some in
    unlike standing k target s shared (subst (λ (x : ℕ). Stands standing x (next (tokens (drop s target)))) (sym same) stands) (omega (arith, some, same)) m e))

-- a text that a name begins with, and a target that shares less with the name
less_than_text : (common name target : Text) (s : ℕ) → BeginsWith common name → AreShared name target s → s < length common
    → AreShared common target s × (next (tokens (drop s name)) ≡ next (tokens (drop s common)))
less_than_text common name target s is (front, n, t, b) l =
    let (rest, c) = shorter-front front (tokens common) (tokens (drop s name)) (tokens (drop (length common) name)) (sym n ∙ is) (omega (arith, b, l, width-tokens common)) in
    let left : tokens (drop s common) ≡ rest = ap (λ (k : ℕ). tokens (drop k common)) b ∙ drop-tokens common front rest c in
    let shared : AreShared common target s = (front, c ∙ ap (λ (x : List ℕ). front ++ x) (sym left), t, b) in
    let some : 0 < next (tokens (drop s common)) = next_some (tokens (drop s common)) (omega (arith, l, width-tokens (drop s common), length-drop s common)) in
    (shared, (parts_there common name target s is shared some).1)

-- nobody that begins with a text governs a target that shares less of it with one of them
pub leaves-early : (standing : Standing) (names : List Text) (common name target : Text) (s : ℕ) → All (BeginsWith common) names → BeginsWith common name → AreShared name target s
    → Stands standing (next (tokens (drop s name))) (next (tokens (drop s target))) → s < length common → None ≡ longest (name_at names) None (components target)
leaves-early standing names common name target s all is are stands l =
    let (shared, same) = less_than_text common name target s is are l in
    sym (none-governs standing names common target s all shared (subst (λ (x : ℕ). Stands standing x (next (tokens (drop s target)))) same stands) (λ e. omega (arith, e, l)))

-- a target that shares no less of it begins with the text
pub begins-too : (common name target : Text) (s : ℕ) → BeginsWith common name → AreShared name target s → length common ≤ s → BeginsWith common target
begins-too common name target s is (front, n, t, b) l =
    let w = width-tokens common in
    let rest_of = tokens (drop s target) in
    let (rest, f) = shorter-front (tokens common) front (tokens (drop (length common) name)) (tokens (drop s name)) (sym is ∙ n) (omega (arith, b, l, w)) in
    let whole : tokens target ≡ tokens common ++ (rest ++ rest_of) = t ∙ (ap (λ (x : List ℕ). x ++ rest_of) f ∙ append_assoc (tokens common) rest rest_of) in
    let behind : tokens (drop (length common) target) ≡ rest ++ rest_of = ap (λ (k : ℕ). tokens (drop k target)) (sym w) ∙ drop-tokens target (tokens common) (rest ++ rest_of) whole in
    whole ∙ ap (λ (x : List ℕ). tokens common ++ x) (sym behind)

-- the names of entries begin with what those of the first and the last share
pub entries-begin : {X : Type 0} (key : X → Text) (entries : List X) (first last : X) (front back : Text) (s : ℕ) → Rise (map (λ e. components (key e)) entries) → 0 < length entries
    → first ≡ get_or entries 0 first → last ≡ get_or entries (length entries - 1) last → front ≡ key first → back ≡ key last → AreShared front back s
    → All (BeginsWith (take s back)) (map key entries)
entries-begin {X} key entries first last front back s rise some f l front_is back_is are =
    let e = length-map entries key in
    all-begin (map key entries) front back s (subst Rise (sym (map-map components key entries)) rise)
    (there_mapped key entries 0 first some f ∙ ap (λ (x : Text). Some x) (sym front_is))
    (ap (λ (n : ℕ). slice_get (map key entries) (n - 1)) e ∙ (there_mapped key entries (length entries - 1) last (omega (arith, some)) l ∙ ap (λ (x : Text). Some x) (sym back_is)))
    are

-- the numbers of so many names
abbrev pub AreDigested : {X : Type 0} → (X → Text) → List X → ℕ → ℕ → List ℕ → Type 0
AreDigested key entries start i values =
    (values ≡ map (digest_behind start) (map key (take i entries))) × All (All (λ b. b < 256)) (map key (take i entries))

pub one-digested : {X : Type 0} (key : X → Text) (entries : List X) (start i : ℕ) (entry : X) (name : Text) (value : ℕ) (values new : List ℕ) → i < length entries
    → entry ≡ get_or entries i entry → name ≡ key entry → All (λ b. b < 256) name → value ≡ digest_behind start name → new ≡ values ++ value ∷ []
    → AreDigested key entries start i values → AreDigested key entries start (i + 1) new
one-digested {X} key entries start i entry name value values new l at is bytes v n (all, each) =
    let more : take (i + 1) entries ≡ take i entries ++ entry ∷ [] = take_more entries i entry l ∙ ap (λ (x : X). take i entries ++ x ∷ []) (sym at) in
    let names : map key (take (i + 1) entries) ≡ map key (take i entries) ++ name ∷ [] =
    ap (map key) more ∙ (map-append key (take i entries) (entry ∷ []) ∙ ap (λ (x : Text). map key (take i entries) ++ x ∷ []) (sym is)) in (
      n ∙ (ap (λ (x : ℕ). values ++ x ∷ []) v ∙ (ap (λ (xs : List ℕ). xs ++ digest_behind start name ∷ []) all
          ∙ (sym (map-append (digest_behind start) (map key (take i entries)) (name ∷ [])) ∙ ap (map (digest_behind start)) (sym names)))),
      subst (All (All (λ b. b < 256))) (sym names) (All-push (All (λ b. b < 256)) (map key (take i entries)) name each bytes),
    )

-- the length of one name more
pub one-measured : {X : Type 0} (key : X → Text) (entries : List X) (i : ℕ) (entry : X) (name : Text) (lengths new : List ℕ) → i < length entries
    → entry ≡ get_or entries i entry → name ≡ key entry → new ≡ lengths ++ length name ∷ []
    → lengths ≡ map (λ name. length name) (map key (take i entries)) → new ≡ map (λ name. length name) (map key (take (i + 1) entries))
one-measured {X} key entries i entry name lengths new l at is n all =
    let more : take (i + 1) entries ≡ take i entries ++ entry ∷ [] = take_more entries i entry l ∙ ap (λ (x : X). take i entries ++ x ∷ []) (sym at) in
    let names : map key (take (i + 1) entries) ≡ map key (take i entries) ++ name ∷ [] =
    ap (map key) more ∙ (map-append key (take i entries) (entry ∷ []) ∙ ap (λ (x : Text). map key (take i entries) ++ x ∷ []) (sym is)) in
    n ∙ (ap (λ (xs : List ℕ). xs ++ length name ∷ []) all
    ∙ (sym (map-append (λ (name : Text). length name) (map key (take i entries)) (name ∷ [])) ∙ ap (map (λ (name : Text). length name)) (sym names)))

entry_begins : {X : Type 0} (key : X → Text) (entries : List X) (i : ℕ) (entry : X) (common name : Text) → i < length entries → entry ≡ get_or entries i entry → name ≡ key entry
    → All (BeginsWith common) (map key entries) → BeginsWith common name
entry_begins key entries i entry common name l at is all =
    let inside : i < length (map key entries) = omega (arith, l, length-map entries key) in
    let same : get_or (map key entries) i (key entry) ≡ name = get_or-map key entries i entry (key entry) l ∙ (ap key (sym at) ∙ sym is) in
    subst (BeginsWith common) same (all i (key entry) inside)

-- the text is no longer than the name of an entry
pub entry-within : {X : Type 0} (key : X → Text) (entries : List X) (i : ℕ) (entry : X) (common name : Text) → i < length entries → entry ≡ get_or entries i entry → name ≡ key entry
    → All (BeginsWith common) (map key entries) → length common ≤ length name
entry-within key entries i entry common name l at is all = begins-within common name (entry_begins key entries i entry common name l at is all)

same_stands : (standing : Standing) (n : ℕ) → 0 < n → Stands standing n n → ⊥
same_stands Same n some (z, _) = omega (arith, some, z)
same_stands Begins n some (z, _) = omega (arith, some, z)
same_stands Before n some (l, _) = omega (arith, l)
same_stands Behind n some l = omega (arith, l)

own_begin : (common : Text) → BeginsWith common common
own_begin common = sym (ap (λ (x : Text). tokens common ++ tokens x) (drop_all (length common) common (omega arith)) ∙ append-nil (tokens common))

-- two names share no more than where they part
shared_longest : (standing : Standing) (front back common : Text) (s : ℕ) → AreShared front back s → Stands standing (next (tokens (drop s front))) (next (tokens (drop s back)))
    → BeginsWith common front → BeginsWith common back → length common ≤ s
shared_longest standing front back common s are stands f b =
    ⊎_elim (λ (l : s < length common).
    let there = less-shared front common back s (length common) are (begins-shared common back common (own_begin common) b) (omega (arith, l)) in
    let n = next (tokens (drop s common)) in
    let some : 0 < n = next_some (tokens (drop s common)) (omega (arith, l, width-tokens (drop s common), length-drop s common)) in
    let left : next (tokens (drop s front)) ≡ n = (parts_there common front back s f there some).1 in
    let right : next (tokens (drop s back)) ≡ n = (parts_there common back back s b there some).1 in
    absurd (same_stands standing n some (subst (λ (x : ℕ). Stands standing x n) left (subst (λ (x : ℕ). Stands standing (next (tokens (drop s front))) x) right stands))))
    (λ (m : length common ≤ s). m)
    (either s (length common))

-- the names of entries begin with no longer text
pub entries-longest : {X : Type 0} (key : X → Text) (entries : List X) (first last : X) (front back common : Text) (standing : Standing) (s : ℕ) → 0 < length entries
    → first ≡ get_or entries 0 first → last ≡ get_or entries (length entries - 1) last → front ≡ key first → back ≡ key last → AreShared front back s
    → Stands standing (next (tokens (drop s front))) (next (tokens (drop s back))) → All (BeginsWith common) (map key entries) → length common ≤ s
entries-longest key entries first last front back common standing s some f l front_is back_is are stands all =
    shared_longest standing front back common s are stands
    (entry_begins key entries 0 first common front some f front_is all)
    (entry_begins key entries (length entries - 1) last common back (omega (arith, some)) l back_is all)
