-- A search by halving for the name that begins a target.
use Rattle.std.proofs.Common.{◌≡◌, ℕ, ◌<◌, ◌≤◌, ◌+◌, ◌-◌, ◌*◌, zero, suc, Bool, true, false, List, [], ◌∷◌, ◌++◌, Option, Some, None, length, take, drop, position, slice_get, refl, sym, ap, ◌∙◌, subst, arith, ◌⊎◌, inl, inr, ⊎_elim}
use Rattle.std.specs.declared.cmp.Ordering.{Ordering}
use Rattle.std.specs.declared.cmp.Ordering.TheVariants.{Less, Equal, Greater}
use Rattle.std.specs.Ordering.{nat_cmp, ordering_then, ordering_reverse, is_eq}
use Rattle.std.specs.Str.{bytes_eq}
use Rattle.std.specs.Cmp.Lexicographic.{pointwise, slice_cmp, nat_list_cmp_total, texts_ties}
use Rattle.std.proofs.lemmas.List.{take-append-drop, take_all, append-nil}
use Rattle.std.proofs.lemmas.Option.{slice_get_within}
use Rattle.std.proofs.lemmas.Slice.Eq.{bytes_eq-Decides, slice_eq-Decides}
use Rattle.log4rs_base.specs.Text.{Text}
use Rattle.log4rs_config.specs.Name.{components}
use Rattle.log4rs_config.specs.declared.order.Standing.{Standing}
use Rattle.log4rs_config.specs.declared.order.Standing.TheVariants.{Begins, Before, Behind}
use Rattle.log4rs_config.specs.Above.{IsBelow}
use Rattle.log4rs_config.specs.Left.{IsLeft}
use Rattle.log4rs_config.specs.Order.{parts_cmp, Rise}
use Rattle.log4rs_config.specs.Seeks.{AllBelow, AllAbove, keys_of, LowSide, HighSide, Seeks, StandsBehind}
use Rattle.log4rs_config.specs.Standing.{tokens, next, width, last_start, AreShared, IsKnown, Stands, order_of}
use Rattle.log4rs_config.specs.Walk.{longest, name_at}
use Rattle.log4rs_config.proofs.Components.{first_part}
use Rattle.log4rs_config.proofs.Halving.{total, either, low_rises, high_falls, found, by_keys, position_none}
use Rattle.log4rs_config.proofs.Searches.{found-longest, fewer-longest}
use Rattle.log4rs_config.proofs.Standings.{less-shared, middle-shares, middle-shares_high, begins-parts, parted, Parted, shared-within}
use Rattle.log4rs_config.proofs.Tokens.{own_reverse, take-tokens}

-- all names share so much with the target
abbrev pub AllShare : List Text → Text → ℕ → Type 0
AllShare names target common = (i : ℕ) (name : Text) → slice_get names i ≡ Some name → AreShared name target common

pub key-there : (names : List Text) (i : ℕ) (x : Text) → slice_get names i ≡ Some x → slice_get (keys_of names) i ≡ Some (components x)
key-there [] i x e = absurd (cc e)
key-there (y ∷ ys) zero x e = ap (λ (z : Text). Some (components z)) (let s : y ≡ x = cc e in s)
key-there (y ∷ ys) (suc i) x e = key-there ys i x e

pub key_here : (names : List Text) (i : ℕ) (k : List Text) → slice_get (keys_of names) i ≡ Some k → (x : Text) × (slice_get names i ≡ Some x) × (components x ≡ k)
key_here [] i k e = absurd (cc e)
key_here (y ∷ ys) zero k e = (y, refl, cc e)
key_here (y ∷ ys) (suc i) k e = key_here ys i k e

-- what the name in the middle shares with the target
pub seek-from : (names : List Text) (target : Text) (common low high middle left right : ℕ) (told : Option Standing) (m : Text) → Rise (keys_of names)
    → AllShare names target common → Seeks names target common low high left right told → low ≤ middle → middle < high → slice_get names middle ≡ Some m
    → (from : ℕ) → ((from ≡ left) × (left ≤ right)) ⊎ ((from ≡ right) × (right ≤ left)) → AreShared m target from
seek-from names target common low high middle left right told m rise all s lm mh at from (inl (is, l)) = subst (λ (x : ℕ). AreShared m target x) (sym is) (from_left s.lows s.highs)
  where
    from_left : LowSide names target common low left told → HighSide names target common high right → AreShared m target left
    from_left (inl (_, c)) h = subst (λ (x : ℕ). AreShared m target x) (sym c) (all middle m at)
    from_left (inr (e, k, n, et, (es, _))) (inl c) = less-shared e m target left common es (all middle m at) (omega (arith, l, c))
    from_left (inr (e, k, n, et, (es, _))) (inr (f, ft, fs)) =
        middle-shares e m f target left right es fs l
        (rise k middle (components e) (components m) (omega (arith, n, lm)) (key-there names k e et) (key-there names middle m at))
        (rise middle high (components m) (components f) mh (key-there names middle m at) (key-there names high f ft))
seek-from names target common low high middle left right told m rise all s lm mh at from (inr (is, l)) = subst (λ (x : ℕ). AreShared m target x) (sym is) (from_right s.lows s.highs)
  where
    from_right : LowSide names target common low left told → HighSide names target common high right → AreShared m target right
    from_right lows (inl c) = subst (λ (x : ℕ). AreShared m target x) (sym c) (all middle m at)
    from_right (inl (_, c)) (inr (f, ft, fs)) = less-shared f m target right common fs (all middle m at) (omega (arith, l, c))
    from_right (inr (e, k, n, et, (es, _))) (inr (f, ft, fs)) =
        middle-shares_high e m f target left right es fs l
        (rise k middle (components e) (components m) (omega (arith, n, lm)) (key-there names k e et) (key-there names middle m at))
        (rise middle high (components m) (components f) mh (key-there names middle m at) (key-there names high f ft))

-- the name in the middle stands before the target
pub seek-low : (names : List Text) (target : Text) (common low high middle left right shared : ℕ) (told standing : Option Standing) (m : Text) → Rise (keys_of names)
    → Seeks names target common low high left right told → middle < high → slice_get names middle ≡ Some m → parts_cmp (components m) (components target) ≡ Less
    → IsKnown m target standing shared → Seeks names target common (middle + 1) high shared right standing
seek-low names target common low high middle left right shared told standing m rise s mh at less known =
    record {
      ordered = omega (arith, mh);
      within_all = s.within_all;
      below = low_rises (keys_of names) (components target) middle (components m) rise (key-there names middle m at) less;
      above = s.above;
      lows = inr (m, middle, refl, at, known);
      highs = s.highs;
    }

-- it stands behind the target
pub seek-high : (names : List Text) (target : Text) (common low high middle left right shared : ℕ) (told : Option Standing) (m : Text) → Rise (keys_of names)
    → Seeks names target common low high left right told → low ≤ middle → middle < high → slice_get names middle ≡ Some m → parts_cmp (components m) (components target) ≡ Greater
    → AreShared m target shared → Seeks names target common low middle left shared told
seek-high names target common low high middle left right shared told m rise s lm mh at greater are =
    record {
      ordered = lm;
      within_all = omega (arith, mh, s.within_all);
      below = s.below;
      above = high_falls (keys_of names) (components target) middle (components m) rise (key-there names middle m at) greater;
      lows = s.lows;
      highs = inr (m, at, are);
    }

-- what is known of the name in front of the place
pub seek-last : (names : List Text) (target : Text) (common low high left right at : ℕ) (told : Option Standing) (e : Text) → Seeks names target common low high left right told
    → low ≡ at + 1 → slice_get names at ≡ Some e → IsKnown e target told left
seek-last names target common low high left right at told e s n there = by_side s.lows
  where
    by_side : LowSide names target common low left told → IsKnown e target told left
    by_side (inl (z, _)) = absurd (omega (arith, n, z))
    by_side (inr (f, k, m, ft, known)) =
        let same : k ≡ at = omega (arith, n, m) in
        let is : f ≡ e = cc (ft, there, ap (slice_get names) same) in subst (λ (x : Text). IsKnown x target told left) is known

pub same_parts : (t : List Text) → parts_cmp t t ≡ Equal
same_parts t = own_reverse (parts_cmp t t) (total.antisymm t t)

pub same_text : (x : Text) → slice_cmp nat_cmp x x ≡ Equal
same_text x = own_reverse (slice_cmp nat_cmp x x) (nat_list_cmp_total.antisymm x x)

-- a front comes before the whole
front_less : (xs : List Text) (y : Text) (ys : List Text) → parts_cmp xs (xs ++ y ∷ ys) ≡ Less
front_less [] y ys = refl
front_less (x ∷ xs) y ys = ap (λ (o : Ordering). ordering_then o (parts_cmp xs (xs ++ y ∷ ys))) (same_text x) ∙ front_less xs y ys

front_not_greater : (xs ys : List Text) → parts_cmp xs (xs ++ ys) ≡ Greater → ⊥
front_not_greater xs [] e = let f = sym (ap (parts_cmp xs) (append-nil xs) ∙ same_parts xs) ∙ e in cc f
front_not_greater xs (y ∷ ys) e = let f = sym (front_less xs y ys) ∙ e in cc f

pub taken_not_greater : (m : ℕ) (t : List Text) → parts_cmp (take m t) t ≡ Greater → ⊥
taken_not_greater m t e = front_not_greater (take m t) (drop m t) (ap (parts_cmp (take m t)) (take-append-drop m t) ∙ e)

front_cmp : (cs xs ys : List Text) → parts_cmp (cs ++ xs) (cs ++ ys) ≡ parts_cmp xs ys
front_cmp [] xs ys = refl
front_cmp (c ∷ cs) xs ys = ap (λ (o : Ordering). ordering_then o (parts_cmp (cs ++ xs) (cs ++ ys))) (same_text c) ∙ front_cmp cs xs ys

by_found : (names : List Text) (t : List Text) (o : Option ℕ) → position (λ k. pointwise bytes_eq k t) (keys_of names) ≡ o → name_at names t ≡ o
by_found names t o e = sym (by_keys components t names o e)

pub fails : (b : Bool) → (b ≡ true → ⊥) → b ≡ false
fails true f = absurd (f refl)
fails false f = refl

-- where no name has these components
pub none_at : (names : List Text) (t : List Text) → ((j : ℕ) (k : Text) → slice_get names j ≡ Some k → components k ≡ t → ⊥) → name_at names t ≡ None
none_at names t never =
    position_none (λ name. pointwise bytes_eq (components name) t) names
    (λ j k at. fails (pointwise bytes_eq (components k) t) (λ e. never j k at ((slice_eq-Decides bytes_eq-Decides (components k) t (pointwise bytes_eq (components k) t) refl).0 e)))

skipped : (at : List Text → Option ℕ) (t : List Text) (c : ℕ) → ((m : ℕ) → c < m → m ≤ length t → at (take m t) ≡ None)
    → (k : ℕ) → c + k ≤ length t → longest at None t ≡ longest at None (take (c + k) t) → longest at None t ≡ longest at None (take c t)
skipped at t c none zero l e = e ∙ ap (λ (n : ℕ). longest at None (take n t)) (omega arith)
skipped at t c none (suc k) l e =
    let fewer = fewer-longest at t (c + suc k) None (omega arith) l (sym (none (c + suc k) (omega arith) l)) refl e in
    skipped at t c none k (omega (arith, l)) (fewer ∙ ap (λ (n : ℕ). longest at None (take n t)) (omega arith))

-- the longer beginnings are nobody's
pub longest-skips : (at : List Text → Option ℕ) (t : List Text) (c : ℕ) → c ≤ length t → ((m : ℕ) → c < m → m ≤ length t → at (take m t) ≡ None) → longest at None t ≡ longest at None (take c t)
longest-skips at t c l none =
    let k : c + (length t - c) ≡ length t = omega (arith, l) in
    skipped at t c none (length t - c) (omega (arith, l)) (ap (longest at None) (sym (take_all (c + (length t - c)) t (omega (arith, k)))))

-- where there are no names, none governs
pub none-governs-alone : (names : List Text) (t : List Text) → length names ≡ 0 → longest (name_at names) None t ≡ None
none-governs-alone names t empty =
    longest-skips (name_at names) t 0 (omega arith)
    (λ m l n. none_at names (take m t) (λ j k at e. omega (arith, empty, slice_get_within names j k at)))

-- a name with the target's components
pub seek-same : (names : List Text) (target : Text) (middle : ℕ) (m : Text) → Rise (keys_of names) → slice_get names middle ≡ Some m → parts_cmp (components m) (components target) ≡ Equal
    → Some middle ≡ longest (name_at names) None (components target)
seek-same names target middle m rise at equal =
    let t = components target in
    let (p, ps, first) = first_part target in
    let long = ap (λ (x : List Text). length x) first in
    let all : take (length t) t ≡ t = take_all (length t) t (omega arith) in
    let here = by_found names t (Some middle) (found (keys_of names) t middle (components m) rise (key-there names middle m at) equal) in
    found-longest (name_at names) t (length t) middle (Some middle) (omega (arith, long)) (omega arith) (sym (ap (name_at names) all ∙ here)) refl (ap (longest (name_at names) None) (sym all))

pub length-front : (xs ys : List Text) → length (xs ++ ys) ≡ length xs + length ys
length-front [] ys = omega arith
length-front (x ∷ xs) ys = let e = length-front xs ys in omega (arith, e)

take-front : (xs ys : List Text) → take (length xs) (xs ++ ys) ≡ xs
take-front [] ys = refl
take-front (x ∷ xs) ys = ap (λ (zs : List Text). x ∷ zs) (take-front xs ys)

-- a longer front has the next component
pub take-longer : (xs : List Text) (y : Text) (ys : List Text) (m : ℕ) → length xs < m → (more : List Text) × (take m (xs ++ y ∷ ys) ≡ xs ++ y ∷ more)
take-longer xs y ys zero l = absurd (omega (arith, l))
take-longer [] y ys (suc m) l = (take m ys, refl)
take-longer (x ∷ xs) y ys (suc m) l = let (more, e) = take-longer xs y ys m (omega (arith, l)) in (more, ap (λ (zs : List Text). x ∷ zs) e)

-- no name from the place on begins the target
behind_none : (names : List Text) (target : Text) (low high : ℕ) → high ≤ low → AllAbove (keys_of names) (components target) high
    → (m j : ℕ) (k : Text) → low ≤ j → slice_get names j ≡ Some k → components k ≡ take m (components target) → ⊥
behind_none names target low high hl above m j k l at e =
    taken_not_greater m (components target) (ap (λ (x : List Text). parts_cmp x (components target)) (sym e) ∙ above j (components k) (omega (arith, hl, l)) (key-there names j k at))

-- nothing stands in front of the place
ends_none : (names : List Text) (target : Text) (high : ℕ) → high ≤ 0 → AllAbove (keys_of names) (components target) high → longest (name_at names) None (components target) ≡ None
ends_none names target high hl above =
    longest-skips (name_at names) (components target) 0 (omega arith)
    (λ m l n. none_at names (take m (components target)) (λ j k at e. behind_none names target 0 high hl above m j k (omega arith) at e))

pub both_less : (a b : List Text) → parts_cmp a b ≡ Less → parts_cmp b a ≡ Less → ⊥
both_less a b l m = let f = sym (total.antisymm a b ∙ ap ordering_reverse m) ∙ l in cc f

last_below : (names : List Text) (i at : ℕ) (k e : Text) → i < at + 1 → slice_get names i ≡ Some k → slice_get names at ≡ Some e → (i < at) ⊎ (k ≡ e)
last_below names i at k e l ik ae =
    ⊎_elim (λ (m : i < at). inl m) (λ (m : at ≤ i). let same : i ≡ at = omega (arith, l, m) in inr (cc (ik, ae, ap (slice_get names) same))) (either i at)

-- the name in front of the place begins the target
ends_begins : (names : List Text) (target : Text) (at high : ℕ) (e : Text) → Rise (keys_of names) → high ≤ at + 1 → AllAbove (keys_of names) (components target) high
    → slice_get names at ≡ Some e → (part : Text) (more : List Text) → components target ≡ components e ++ part ∷ more → Some at ≡ longest (name_at names) None (components target)
ends_begins names target at high e rise hl above there part more whole =
    let t = components target in
    let n = length (components e) in
    let (p, ps, first) = first_part e in
    let some = ap (λ (x : List Text). length x) first in
    let long : length t ≡ n + length (part ∷ more) = ap (λ (x : List Text). length x) whole ∙ length-front (components e) (part ∷ more) in
    let front : take n t ≡ components e = ap (take n) whole ∙ take-front (components e) (part ∷ more) in
    let here = by_found names (components e) (Some at) (found (keys_of names) (components e) at (components e) rise (key-there names at e there) (same_parts (components e))) in
    found-longest (name_at names) t n at (Some at) (omega (arith, some)) (omega (arith, long)) (sym (ap (name_at names) front ∙ here)) refl
    (longest-skips (name_at names) t n (omega (arith, long))
    (λ m l o. none_at names (take m t) (λ j k jt is.
    let (rest, longer) = take-longer (components e) part more m l in
    let k_is : components k ≡ components e ++ part ∷ rest = is ∙ (ap (take m) whole ∙ longer) in
    let before : parts_cmp (components e) (components k) ≡ Less = ap (parts_cmp (components e)) k_is ∙ front_less (components e) part rest in
    ⊎_elim (λ (b : j < at + 1).
    ⊎_elim (λ (c : j < at). both_less (components k) (components e) (rise j at (components k) (components e) c (key-there names j k jt) (key-there names at e there)) before)
    (λ (c : k ≡ e). let f = sym (ap (λ (x : Text). parts_cmp (components e) (components x)) c ∙ same_parts (components e)) ∙ before in cc f)
    (last_below names j at k e b jt there))
    (λ (b : at + 1 ≤ j). behind_none names target (at + 1) high hl above m j k b jt is)
    (either j (at + 1)))))

first_less : (o p : Ordering) → ordering_then o p ≡ Less → (o ≡ Equal → ⊥) → o ≡ Less
first_less Less p e never = refl
first_less Equal p e never = absurd (never refl)
first_less Greater p e never = e

equal_texts : (x y : Text) → slice_cmp nat_cmp x y ≡ Equal → x ≡ y
equal_texts x y q = (bytes_eq-Decides x y).0 (texts_ties x y ∙ ap is_eq q)

both_ways : (x y : Text) (xs ys us vs : List Text) → (x ≡ y → ⊥) → parts_cmp (x ∷ xs) (y ∷ ys) ≡ Less → parts_cmp (y ∷ vs) (x ∷ us) ≡ Less → ⊥
both_ways x y xs ys us vs never l m =
    let a = first_less (slice_cmp nat_cmp x y) (parts_cmp xs ys) l (λ q. never (equal_texts x y q)) in
    let b = first_less (slice_cmp nat_cmp y x) (parts_cmp vs us) m (λ q. never (sym (equal_texts y x q))) in
    let f = sym (nat_list_cmp_total.antisymm x y ∙ ap ordering_reverse b) ∙ a in cc f

pub same_heads : (cs : List Text) (x y : Text) (xs ys : List Text) → cs ++ x ∷ xs ≡ cs ++ y ∷ ys → x ≡ y
same_heads [] x y xs ys q = cc q
same_heads (c ∷ cs) x y xs ys q = same_heads cs x y xs ys (cc q)

-- the name in front of the place leaves the target
pub ends_parted : (names : List Text) (target : Text) (at high : ℕ) (e : Text) → Rise (keys_of names) → high ≤ at + 1 → AllAbove (keys_of names) (components target) high
    → slice_get names at ≡ Some e → parts_cmp (components e) (components target) ≡ Less → (start : ℕ) (p : Parted e target start)
    → longest (name_at names) None (components target) ≡ longest (name_at names) None p.common
ends_parted names target at high e rise hl above there less start p =
    let t = components target in
    let cs = p.common in
    let n = length cs in
    let long : length t ≡ n + length (p.other ∷ p.others) = ap (λ (x : List Text). length x) p.right ∙ length-front cs (p.other ∷ p.others) in
    let front : take n t ≡ cs = ap (take n) p.right ∙ take-front cs (p.other ∷ p.others) in
    let apart : parts_cmp (p.part ∷ p.parts) (p.other ∷ p.others) ≡ Less = sym (front_cmp cs (p.part ∷ p.parts) (p.other ∷ p.others)) ∙ (sym (ap (λ (x : List Text). parts_cmp x t) p.left ∙ ap (parts_cmp (cs ++ p.part ∷ p.parts)) p.right) ∙ less) in
    longest-skips (name_at names) t n (omega (arith, long))
    (λ m l o. none_at names (take m t) (λ j k jt is.
    let (rest, longer) = take-longer cs p.other p.others m l in
    let k_is : components k ≡ cs ++ p.other ∷ rest = is ∙ (ap (take m) p.right ∙ longer) in
    ⊎_elim (λ (b : j < at + 1).
    ⊎_elim (λ (c : j < at).
    let before = rise j at (components k) (components e) c (key-there names j k jt) (key-there names at e there) in
    let turned : parts_cmp (p.other ∷ rest) (p.part ∷ p.parts) ≡ Less = sym (front_cmp cs (p.other ∷ rest) (p.part ∷ p.parts)) ∙ (sym (ap (λ (x : List Text). parts_cmp x (components e)) k_is ∙ ap (parts_cmp (cs ++ p.other ∷ rest)) p.left) ∙ before) in
    both_ways p.part p.other p.parts p.others p.parts rest p.apart apart turned)
    (λ (c : k ≡ e). p.apart (same_heads cs p.part p.other p.parts rest (sym p.left ∙ (ap components (sym c) ∙ k_is))))
    (last_below names j at k e b jt there))
    (λ (b : at + 1 ≤ j). behind_none names target (at + 1) high hl above m j k b jt is)
    (either j (at + 1))))
    ∙ ap (longest (name_at names) None) front

pub start-low : (at last : ℕ) (front : List ℕ) → last ≤ at → last_start at last front ≤ at + width front
start-low at last [] l = omega (arith, l)
start-low at last (zero ∷ front) l = let e = start-low (at + 2) (at + 2) front (omega arith) in omega (arith, e)
start-low at last (suc b ∷ front) l = let e = start-low (at + 1) last front (omega (arith, l)) in omega (arith, e)

-- the last component begins within the target
start-within : (name target : Text) (s : ℕ) → AreShared name target s → last_start 0 0 (tokens (take s target)) ≤ length target
start-within name target s (front, n, t, b) =
    let (_, inside) = shared-within name target s (front, n, t, b) in
    let taken : tokens (take s target) ≡ front = ap (λ (k : ℕ). tokens (take k target)) b ∙ take-tokens target front (tokens (drop s target)) t in
    let same = ap (last_start 0 0) taken in
    let lower = start-low 0 0 front (omega arith) in
    omega (arith, b, same, inside, lower)

-- the search has ended in front of all names
pub seek-none : (names : List Text) (target : Text) (common low high left right : ℕ) (told : Option Standing) → Seeks names target common low high left right told → high ≤ low → low ≡ 0
    → None ≡ longest (name_at names) None (components target)
seek-none names target common low high left right told s hl z = sym (ends_none names target high (omega (arith, hl, z)) s.above)

-- it has ended at a name that begins the target
pub seek-ends : (names : List Text) (target : Text) (common low high left right at shared : ℕ) (told : Option Standing) (e : Text) → Rise (keys_of names) → Seeks names target common low high left right told → high ≤ low
    → low ≡ at + 1 → slice_get names at ≡ Some e → AreShared e target shared → Stands Begins (next (tokens (drop shared e))) (next (tokens (drop shared target)))
    → Some at ≡ longest (name_at names) None (components target)
seek-ends names target common low high left right at shared told e rise s hl n there are (a, b) =
    let (part, more, whole) = begins-parts e target shared are a b in
    ends_begins names target at high e rise (omega (arith, hl, n)) s.above there part more whole

-- no name begins the target, or one that begins a part of it that ends where the name in front does not
abbrev pub Remains : List Text → Text → Text → ℕ → Type 0
Remains names target e start =
    ((start ≡ 0) × (None ≡ longest (name_at names) None (components target))) ⊎ (IsLeft names target start × IsBelow e (take (start - 2) target))

-- where the target stands behind a name that leaves it
pub remains : (names : List Text) (target : Text) (at shared : ℕ) (e : Text) → Rise (keys_of names) → StandsBehind names target at → slice_get names at ≡ Some e → AreShared e target shared
    → Stands Before (next (tokens (drop shared e))) (next (tokens (drop shared target))) → (start : ℕ) → start ≡ last_start 0 0 (tokens (take shared target)) → Remains names target e start
remains names target at shared e rise (below, above) there are (l, big) start is =
    let p = parted e target shared are l big in
    let less = below at (components e) (omega arith) (key-there names at e there) in
    let whole = ends_parted names target at (at + 1) e rise (omega arith) above there less (last_start 0 0 (tokens (take shared target))) p in
    let long = ap (λ (x : List Text). length x) p.right ∙ length-front p.common (p.other ∷ p.others) in
    let inside = start-within e target shared are in
    subst (Remains names target e) (sym is)
    (⊎_elim (λ (z : (last_start 0 0 (tokens (take shared target)) ≡ 0) × (p.common ≡ [])). inl (z.0, sym (whole ∙ ap (longest (name_at names) None) z.1)))
    (λ (z : (1 < last_start 0 0 (tokens (take shared target))) × (components (take (last_start 0 0 (tokens (take shared target)) - 2) target) ≡ p.common)).
    inr (
      (
        z.0,
        omega (arith, z.0, inside),
        (let shorter = ap (λ (x : List Text). length x) z.1 in omega (arith, shorter, long)),
        whole ∙ ap (longest (name_at names) None) (sym z.1),
      ),
      (p.part, p.parts, p.left ∙ ap (λ (x : List Text). x ++ p.part ∷ p.parts) (sym z.1)),
    ))
    p.cut)

-- a search that has ended behind a name
pub stands-behind : (names : List Text) (target : Text) (common low high left right at : ℕ) (told : Option Standing) → Seeks names target common low high left right told → high ≤ low → low ≡ at + 1
    → StandsBehind names target at
stands-behind names target common low high left right at told s hl n =
    (subst (AllBelow (keys_of names) (components target)) n s.below, λ i a l here. s.above i a (omega (arith, hl, n, l)) here)

-- a name that stands in front, and does not begin the target
pub stands-before : (standing : Standing) (a b : ℕ) → (standing ≡ Before) ⊎ (standing ≡ Behind) → Stands standing a b → order_of standing ≡ Less → Stands Before a b
stands-before standing a b (inl is) stands less = subst (λ (x : Standing). Stands x a b) is stands
stands-before standing a b (inr is) stands less = absurd (let f = sym less ∙ ap order_of is in cc f)

-- the same by how the name stands
pub seek-parted : (names : List Text) (target : Text) (common low high left right at shared : ℕ) (told : Option Standing) (e : Text) (standing : Standing) → Rise (keys_of names)
    → Seeks names target common low high left right told → high ≤ low → low ≡ at + 1 → slice_get names at ≡ Some e → AreShared e target shared
    → Stands standing (next (tokens (drop shared e))) (next (tokens (drop shared target))) → parts_cmp (components e) (components target) ≡ order_of standing
    → (standing ≡ Before) ⊎ (standing ≡ Behind) → (start : ℕ) → start ≡ last_start 0 0 (tokens (take shared target)) → Remains names target e start
seek-parted names target common low high left right at shared told e standing rise s hl n there are stands order (inl is) start here =
    remains names target at shared e rise (stands-behind names target common low high left right at told s hl n) there are
    (subst (λ (x : Standing). Stands x (next (tokens (drop shared e))) (next (tokens (drop shared target)))) is stands) start here
seek-parted names target common low high left right at shared told e standing rise s hl n there are stands order (inr is) start here =
    absurd (let less = s.below at (components e) (omega (arith, n)) (key-there names at e there) in let f = sym less ∙ (order ∙ ap order_of is) in cc f)

pub remains-none : (names : List Text) (target e : Text) (start : ℕ) → Remains names target e start → start < 2 → None ≡ longest (name_at names) None (components target)
remains-none names target e start (inl z) l = z.1
remains-none names target e start (inr (left, _)) l = absurd (omega (arith, left.0, l))

pub remains-more : (names : List Text) (target e : Text) (start : ℕ) → Remains names target e start → (start < 2 → ⊥) → IsLeft names target start × IsBelow e (take (start - 2) target)
remains-more names target e start (inl z) l = absurd (l (omega (arith, z.0)))
remains-more names target e start (inr z) l = z

-- the comparisons of one component
pub one_search : (now turns old left all digits : ℕ) → now ≤ turns + digits → 0 < left → turns + left * digits ≤ old + all * digits → now ≤ old + all * digits
one_search now turns old zero all digits step some inv = absurd (omega (arith, some))
one_search now turns old (suc left) all digits step some inv =
    let whole : suc left * digits ≡ left * digits + digits = omega arith in
    omega (arith, step, inv, whole)
