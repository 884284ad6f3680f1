-- The name that governs a parent stands among the names before a place.
use Rattle.std.proofs.Common.{◌≡◌, ℕ, ◌<◌, ◌≤◌, ◌+◌, ◌-◌, zero, suc, Bool, false, cond, List, [], ◌∷◌, ◌++◌, Option, Some, None, length, map, take, drop, position, get_or, slice_get, refl, sym, ap, ◌∙◌, subst, arith, if◌then◌else◌, ◌⊎◌, inl, inr, ⊎_elim}
use Rattle.std.specs.declared.cmp.Ordering.{Ordering}
use Rattle.std.specs.declared.cmp.Ordering.TheVariants.{Less}
use Rattle.std.specs.Ordering.{ordering_then}
use Rattle.std.specs.Option.{option_map_or, option_or, IfSome}
use Rattle.std.specs.Str.{bytes_eq}
use Rattle.std.specs.Cmp.Lexicographic.{pointwise}
use Rattle.std.proofs.lemmas.List.{take_all, take_more, length-take-le}
use Rattle.std.proofs.lemmas.Slice.Eq.{bytes_eq-Decides, slice_eq-Decides}
use Rattle.log4rs_base.specs.Text.{Text}
use Rattle.log4rs_config.specs.Above.{AreAbove, IsBelow, parents}
use Rattle.log4rs_config.specs.Name.{components}
use Rattle.log4rs_config.specs.declared.order.Standing.{Standing}
use Rattle.log4rs_config.specs.declared.order.Standing.TheVariants.{Same, Begins, Before, Behind}
use Rattle.log4rs_config.specs.Order.{parts_cmp, Rise}
use Rattle.log4rs_config.specs.Standing.{tokens, next, last_start, AreShared, Stands, order_of}
use Rattle.log4rs_config.specs.Routing.{places}
use Rattle.log4rs_config.specs.Settings.{LoggerSetting}
use Rattle.log4rs_config.specs.Seeks.{Seeks, keys_of}
use Rattle.log4rs_config.specs.Walk.{walk, longest, name_at, chained}
use Rattle.log4rs_config.proofs.Climbing.{Found, nobody, somebody, finds, take-within}
use Rattle.log4rs_config.proofs.Components.{first_part}
use Rattle.log4rs_config.proofs.Halving.{by_keys, either, first_of, found, position_none}
use Rattle.log4rs_config.proofs.Rising.{within, length-same}
use Rattle.log4rs_config.proofs.Searches.{walk-more}
use Rattle.log4rs_config.proofs.Seeking.{Remains, key-there, key_here, same_parts, same_text, both_less, fails, longest-skips, none_at, none-governs-alone, seek-ends, seek-parted, remains-none, remains-more, length-front}
use Rattle.log4rs_config.proofs.Settled.{position_at}

-- what stands at a place of a front
taken-at : {X : Type 0} (n : ℕ) (xs : List X) (i : ℕ) (x : X) → slice_get (take n xs) i ≡ Some x → slice_get xs i ≡ Some x
taken-at zero xs i x e = absurd (cc e)
taken-at (suc n) [] i x e = absurd (cc e)
taken-at (suc n) (y ∷ ys) zero x e = e
taken-at (suc n) (y ∷ ys) (suc i) x e = taken-at n ys i x e

taken-within : {X : Type 0} (n : ℕ) (xs : List X) (i : ℕ) (x : X) → slice_get (take n xs) i ≡ Some x → i < n
taken-within zero xs i x e = absurd (cc e)
taken-within (suc n) [] i x e = absurd (cc e)
taken-within (suc n) (y ∷ ys) zero x e = omega arith
taken-within (suc n) (y ∷ ys) (suc i) x e = let l = taken-within n ys i x e in omega (arith, l)

taken-there : {X : Type 0} (n : ℕ) (xs : List X) (i : ℕ) (x : X) → i < n → slice_get xs i ≡ Some x → slice_get (take n xs) i ≡ Some x
taken-there zero xs i x l e = absurd (omega (arith, l))
taken-there (suc n) [] i x l e = absurd (cc e)
taken-there (suc n) (y ∷ ys) zero x l e = e
taken-there (suc n) (y ∷ ys) (suc i) x l e = taken-there n ys i x (omega (arith, l)) e

-- names in front rise too
rise-front : (names : List Text) (n : ℕ) → Rise (keys_of names) → Rise (keys_of (take n names))
rise-front names n rise i j a b l at bt =
    let (x, xt, xe) = key_here (take n names) i a at in
    let (y, yt, ye) = key_here (take n names) j b bt in
    let less = rise i j (components x) (components y) l (key-there names i x (taken-at n names i x xt)) (key-there names j y (taken-at n names j y yt)) in
    sym (ap (λ (v : List Text). parts_cmp v b) xe) ∙ (sym (ap (parts_cmp (components x)) ye) ∙ less)

-- a front comes first
less-front : (m : ℕ) (t : List Text) → m < length t → parts_cmp (take m t) t ≡ Less
less-front zero [] l = absurd (omega (arith, l))
less-front zero (x ∷ xs) l = refl
less-front (suc m) [] l = absurd (omega (arith, l))
less-front (suc m) (x ∷ xs) l = ap (λ (o : Ordering). ordering_then o (parts_cmp (take m xs) xs)) (same_text x) ∙ less-front m xs (omega (arith, l))

-- what fails behind a place is found in front of it
front-same : (p : Text → Bool) (n : ℕ) (xs : List Text) → ((j : ℕ) (k : Text) → n ≤ j → slice_get xs j ≡ Some k → p k ≡ false) → position p (take n xs) ≡ position p xs
front-same p zero xs h = sym (position_none p xs (λ j y at. h j y (omega arith) at))
front-same p (suc n) [] h = refl
front-same p (suc n) (x ∷ xs) h =
    first_of p x (take n xs)
    ∙ (ap (λ (o : Option ℕ). cond (p x) (Some 0) (option_map_or (λ i. Some (suc i)) o None)) (front-same p n xs (λ j k l at. h (suc j) k (omega (arith, l)) at))
    ∙ sym (first_of p x xs))

-- walks by what is the same at each beginning
same-walk : {A : Type 0} (step : Option ℕ → A → A) (a b : List Text → Option ℕ) (v : A) (t : List Text) → ((m : ℕ) → 0 < m → m ≤ length t → a (take m t) ≡ b (take m t)) → walk step a v t ≡ walk step b v t
same-walk step a b v [] h = refl
same-walk step a b v (p ∷ ps) h =
    ap (λ (o : Option ℕ). walk step (λ more. a (p ∷ more)) (step o v) ps) (h 1 (omega arith) (omega arith))
    ∙ same-walk step (λ more. a (p ∷ more)) (λ more. b (p ∷ more)) (step (b (p ∷ [])) v) ps (λ m l n. h (suc m) (omega arith) (omega (arith, n)))

-- where no name from a place on comes before a name, those before the place decide what governs its beginnings
agree : (names : List Text) (n : ℕ) (c w : List Text) (part : Text) (more : List Text) → w ≡ c ++ part ∷ more
    → ((j : ℕ) (k : Text) → n ≤ j → slice_get names j ≡ Some k → parts_cmp (components k) w ≡ Less → ⊥)
    → longest (name_at (take n names)) None c ≡ longest (name_at names) None c
agree names n c w part more is never =
    let long : length w ≡ length c + length (part ∷ more) = ap (λ (x : List Text). length x) is ∙ length-front c (part ∷ more) in
    same-walk option_or (name_at (take n names)) (name_at names) None c
    (λ m s l. front-same (λ name. pointwise bytes_eq (components name) (take m c)) n names
    (λ j k nj at. fails (pointwise bytes_eq (components k) (take m c))
    (λ yes. never j k nj at
    (ap (λ (x : List Text). parts_cmp x w)
    ((slice_eq-Decides bytes_eq-Decides (components k) (take m c) (pointwise bytes_eq (components k) (take m c)) refl).0 yes ∙ (take-within c (part ∷ more) m l ∙ ap (take m) (sym is)))
    ∙ less-front m w (omega (arith, l, long))))))

-- no name from a place on comes before the one there
later : (names : List Text) (i j : ℕ) (t k : Text) → Rise (keys_of names) → slice_get names i ≡ Some t → i ≤ j → slice_get names j ≡ Some k → parts_cmp (components k) (components t) ≡ Less → ⊥
later names i j t k rise it l jk less =
    ⊎_elim (λ (m : i < j). both_less (components k) (components t) less (rise i j (components t) (components k) m (key-there names i t it) (key-there names j k jk)))
    (λ (m : j ≤ i).
    let same : i ≡ j = omega (arith, l, m) in
    let is : t ≡ k = cc (it, jk, ap (slice_get names) same) in
    let f = sym (same_parts (components t)) ∙ (ap (λ (x : Text). parts_cmp (components x) (components t)) is ∙ less) in cc f)
    (either i j)

last-part : (t : Text) → (part : Text) × (components t ≡ parents (components t) ++ part ∷ [])
last-part t =
    let (p, ps, e) = first_part t in
    let some = ap (λ (x : List Text). length x) e in
    let n = length (components t) - 1 in
    (get_or (components t) n [], sym (take_all (n + 1) (components t) (omega arith)) ∙ take_more (components t) n [] (omega (arith, some)))

-- what governs a name among those before it governs its parent
pub parent-governs : (names : List Text) (i : ℕ) (t : Text) → Rise (keys_of names) → slice_get names i ≡ Some t
    → longest (name_at (take i names)) None (components t) ≡ longest (name_at names) None (parents (components t))
parent-governs names i t rise it =
    let whole = components t in
    let (part, e) = last-part t in
    let (p, ps, first) = first_part t in
    let some = ap (λ (x : List Text). length x) first in
    longest-skips (name_at (take i names)) whole (length whole - 1) (omega arith)
    (λ m a b. none_at (take i names) (take m whole)
    (λ j k jt is.
    let all : components k ≡ whole = is ∙ take_all m whole (omega (arith, a, some)) in
    let less = rise j i (components k) whole (taken-within i names j k jt) (key-there names j k (taken-at i names j k jt)) (key-there names i t it) in
    let f = sym (same_parts whole) ∙ (sym (ap (λ (x : List Text). parts_cmp x whole) all) ∙ less) in cc f))
    ∙ agree names i (parents whole) whole part [] e (λ j k l at. later names i j t k rise it l at)

-- nothing stands before the first
pub first-above : (names : List Text) (t : Text) → Rise (keys_of names) → slice_get names 0 ≡ Some t → None ≡ longest (name_at names) None (parents (components t))
first-above names t rise it = sym (none-governs-alone (take 0 names) (components t) refl) ∙ parent-governs names 0 t rise it

-- the names before a place, as a search that has ended there
seeks-before : (names : List Text) (at i shared : ℕ) (e t : Text) → Rise (keys_of names) → i ≡ at + 1 → slice_get names at ≡ Some e → slice_get names i ≡ Some t → AreShared e t shared
    → Seeks (take i names) t 0 i i shared 0 None
seeks-before names at i shared e t rise n et it are =
    let inside = within names i t it in
    let long : length (take i names) ≡ i = length-take-le i names (omega (arith, inside)) in
    record {
      ordered = omega arith;
      within_all = omega (arith, long);
      below = λ j a l there. let (x, xt, xe) = key_here (take i names) j a there in
          sym (ap (λ (v : List Text). parts_cmp v (components t)) xe) ∙ rise j i (components x) (components t) l (key-there names j x (taken-at i names j x xt)) (key-there names i t it);
      above = λ j a l there. absurd (let m = within (keys_of (take i names)) j a there in omega (arith, l, m, long, length-same components (take i names)));
      lows = inr (e, at, n, taken-there i names at e (omega (arith, n)) et, (are, tt));
      highs = inl refl;
    }

-- the name before one begins it
pub begun-above : (names : List Text) (at i shared : ℕ) (e t : Text) (standing : Standing) → Rise (keys_of names) → i ≡ at + 1 → slice_get names at ≡ Some e → slice_get names i ≡ Some t
    → AreShared e t shared → Stands standing (next (tokens (drop shared e))) (next (tokens (drop shared t))) → parts_cmp (components e) (components t) ≡ order_of standing
    → (standing ≡ Same) ⊎ (standing ≡ Begins) → Some at ≡ longest (name_at names) None (parents (components t))
begun-above names at i shared e t standing rise n et it are stands order (inl is) =
    absurd (let less = rise at i (components e) (components t) (omega (arith, n)) (key-there names at e et) (key-there names i t it) in let f = sym less ∙ (order ∙ ap order_of is) in cc f)
begun-above names at i shared e t standing rise n et it are stands order (inr is) =
    seek-ends (take i names) t 0 i i shared 0 at shared None e (rise-front names i rise) (seeks-before names at i shared e t rise n et it are) (omega arith) n
    (taken-there i names at e (omega (arith, n)) et) are (subst (λ (x : Standing). Stands x (next (tokens (drop shared e))) (next (tokens (drop shared t)))) is stands)
    ∙ parent-governs names i t rise it

-- the name before one parts from it
parted-above : (names : List Text) (at i shared : ℕ) (e t : Text) (standing : Standing) → Rise (keys_of names) → i ≡ at + 1 → slice_get names at ≡ Some e → slice_get names i ≡ Some t
    → AreShared e t shared → Stands standing (next (tokens (drop shared e))) (next (tokens (drop shared t))) → parts_cmp (components e) (components t) ≡ order_of standing
    → (standing ≡ Before) ⊎ (standing ≡ Behind) → (start : ℕ) → start ≡ last_start 0 0 (tokens (take shared t)) → Remains (take i names) t e start
parted-above names at i shared e t standing rise n et it are stands order which start here =
    seek-parted (take i names) t 0 i i shared 0 at shared None e standing (rise-front names i rise) (seeks-before names at i shared e t rise n et it are) (omega arith) n
    (taken-there i names at e (omega (arith, n)) et) are stands order which start here

pub alone-above : (names : List Text) (at i shared : ℕ) (e t : Text) (standing : Standing) → Rise (keys_of names) → i ≡ at + 1 → slice_get names at ≡ Some e → slice_get names i ≡ Some t
    → AreShared e t shared → Stands standing (next (tokens (drop shared e))) (next (tokens (drop shared t))) → parts_cmp (components e) (components t) ≡ order_of standing
    → (standing ≡ Before) ⊎ (standing ≡ Behind) → (start : ℕ) → start ≡ last_start 0 0 (tokens (take shared t)) → start < 2 → None ≡ longest (name_at names) None (parents (components t))
alone-above names at i shared e t standing rise n et it are stands order which start here l =
    remains-none (take i names) t e start (parted-above names at i shared e t standing rise n et it are stands order which start here) l ∙ parent-governs names i t rise it

-- what is left to look for governs the parent
pub left-above : (names : List Text) (at i shared : ℕ) (e t : Text) (standing : Standing) → Rise (keys_of names) → i ≡ at + 1 → slice_get names at ≡ Some e → slice_get names i ≡ Some t
    → AreShared e t shared → Stands standing (next (tokens (drop shared e))) (next (tokens (drop shared t))) → parts_cmp (components e) (components t) ≡ order_of standing
    → (standing ≡ Before) ⊎ (standing ≡ Behind) → (start : ℕ) → start ≡ last_start 0 0 (tokens (take shared t)) → (start < 2 → ⊥)
    → (start - 2 < length t) × IsBelow e (take (start - 2) t) × (longest (name_at names) None (components (take (start - 2) t)) ≡ longest (name_at names) None (parents (components t)))
left-above names at i shared e t standing rise n et it are stands order which start here l =
    let (left, (part, parts, is)) = remains-more (take i names) t e start (parted-above names at i shared e t standing rise n et it are stands order which start here) l in
    let front = take (start - 2) t in (
      left.1,
      (part, parts, is),
      sym (agree names i (components front) (components e) part parts is (λ j k m jt. later names at j e k rise et (omega (arith, n, m)) jt))
          ∙ (sym left.3 ∙ parent-governs names i t rise it),
    )

lower-found : (names : List Text) (at : ℕ) (name : Text) (up : ℕ) → Rise (keys_of names) → slice_get names at ≡ Some name
    → Found (name_at names) (components name) (length (components name) - 1) (Some up) → up < at
lower-found names at name up rise there (nobody z none) = absurd (cc z)
lower-found names at name up rise there (somebody q m z s l here none) =
    let t = components name in
    let (k, kt, passes) = position_at (λ name. pointwise bytes_eq (components name) (take m t)) names q here in
    let same : components k ≡ take m t = (slice_eq-Decides bytes_eq-Decides (components k) (take m t) (pointwise bytes_eq (components k) (take m t)) refl).0 passes in
    let is : up ≡ q = cc z in
    ⊎_elim (λ (b : q < at). omega (arith, is, b))
    (λ (b : at ≤ q). absurd (later names at q name k rise there b kt (ap (λ (x : List Text). parts_cmp x t) same ∙ less-front m t (omega (arith, s, l)))))
    (either q at)

-- what governs a parent stands before the name
pub above-lower : (names : List Text) (above : List (Option ℕ)) (at : ℕ) (name : Text) (up : ℕ) → Rise (keys_of names) → AreAbove names above → slice_get names at ≡ Some name
    → slice_get above at ≡ Some (Some up) → up < at
above-lower names above at name up rise all there told =
    let t = components name in
    lower-found names at name up rise there (finds (name_at names) t (length t - 1) (Some up) (omega arith) (sym (all at name (Some up) there told)))

-- beginnings that nobody has add nothing
walk-skips : {A : Type 0} (step : Option ℕ → A → A) → ((x : A) → step None x ≡ x) → (at : List Text → Option ℕ) (v : A) (t : List Text) (m k : ℕ) → m + k ≤ length t
    → ((j : ℕ) → m < j → j ≤ m + k → at (take j t) ≡ None) → walk step at v (take (m + k) t) ≡ walk step at v (take m t)
walk-skips step h at v t m zero l none = ap (λ (n : ℕ). walk step at v (take n t)) (omega arith)
walk-skips step h at v t m (suc k) l none =
    let e : m + suc k ≡ m + k + 1 = omega arith in
    ap (λ (n : ℕ). walk step at v (take n t)) e
    ∙ (walk-more step at v t (m + k) (omega (arith, l))
    ∙ (ap (λ (o : Option ℕ). step o (walk step at v (take (m + k) t))) (ap (λ (n : ℕ). at (take n t)) (sym e) ∙ none (m + suc k) (omega arith) (omega arith))
    ∙ (h (walk step at v (take (m + k) t)) ∙ walk-skips step h at v t m k (omega (arith, l)) (λ j a b. none j a (omega (arith, b))))))

walk-found : {A : Type 0} (step : Option ℕ → A → A) → ((x : A) → step None x ≡ x) → (names : List Text) (v : A) (t : List Text) (n : ℕ) (lists : List A) (d : A) → n ≤ length t
    → (up : Option ℕ) → Found (name_at names) t n up
    → ((q : ℕ) (k : Text) → up ≡ Some q → slice_get names q ≡ Some k → get_or lists q d ≡ walk step (name_at names) v (components k))
    → option_map_or (λ q. get_or lists q d) up v ≡ walk step (name_at names) v (take n t)
walk-found step h names v t n lists d l None (nobody z none) all =
    let e : 0 + n ≡ n = omega arith in
    sym (walk-skips step h (name_at names) v t 0 n (omega (arith, l)) (λ j a b. none j a (omega (arith, b)))) ∙ ap (λ (i : ℕ). walk step (name_at names) v (take i t)) e
walk-found step h names v t n lists d l (Some q) (nobody z none) all = absurd (cc z)
walk-found step h names v t n lists d l None (somebody q m z s b here none) all = absurd (cc z)
walk-found {A} step h names v t n lists d l (Some p) (somebody q m z s b here none) all =
    let (k, kt, passes) = position_at (λ name. pointwise bytes_eq (components name) (take m t)) names q here in
    let same : components k ≡ take m t = (slice_eq-Decides bytes_eq-Decides (components k) (take m t) (pointwise bytes_eq (components k) (take m t)) refl).0 passes in
    let is : p ≡ q = cc z in
    let e : m + (n - m) ≡ n = omega (arith, b) in
    all p k refl (ap (slice_get names) is ∙ kt)
    ∙ (ap (walk step (name_at names) v) same
    ∙ (sym (walk-skips step h (name_at names) v t m (n - m) (omega (arith, e, l)) (λ j a c. none j a (omega (arith, c, e))))
    ∙ ap (λ (i : ℕ). walk step (name_at names) v (take i t)) e))

-- the walk of a parent is that of the name above, or has not begun
pub parent-walk : {A : Type 0} (step : Option ℕ → A → A) → ((x : A) → step None x ≡ x) → (names : List Text) (v : A) (name : Text) (lists : List A) (d : A) (up : Option ℕ)
    → up ≡ longest (name_at names) None (parents (components name))
    → ((q : ℕ) (k : Text) → up ≡ Some q → slice_get names q ≡ Some k → get_or lists q d ≡ walk step (name_at names) v (components k))
    → option_map_or (λ q. get_or lists q d) up v ≡ walk step (name_at names) v (parents (components name))
parent-walk step h names v name lists d up is all =
    let t = components name in
    walk-found step h names v t (length t - 1) lists d (omega arith) up (finds (name_at names) t (length t - 1) up (omega arith) (sym is)) all

-- the walk of a name goes one step further than that of its parent
pub whole-walk : {A : Type 0} (step : Option ℕ → A → A) (at : List Text → Option ℕ) (v : A) (name : Text)
    → walk step at v (components name) ≡ step (at (components name)) (walk step at v (parents (components name)))
whole-walk step at v name =
    let t = components name in
    let n = length t - 1 in
    let (p, ps, first) = first_part name in
    let some = ap (λ (x : List Text). length x) first in
    let all : take (n + 1) t ≡ t = take_all (n + 1) t (omega arith) in
    ap (walk step at v) (sym all) ∙ (walk-more step at v t n (omega (arith, some)) ∙ ap (λ (x : List Text). step (at x) (walk step at v (take n t))) all)

-- what was made for the names in front
pub listed : {X A : Type 0} (h : X → Text) (w : Text → A) (d : A) (n : ℕ) (xs : List X) (q : ℕ) (k : Text) → q < n → slice_get (map h xs) q ≡ Some k
    → get_or (map (λ x. w (h x)) (take n xs)) q d ≡ w k
listed h w d zero xs q k l e = absurd (omega (arith, l))
listed h w d (suc n) [] q k l e = absurd (cc e)
listed h w d (suc n) (x ∷ xs) zero k l e = ap w (let s : h x ≡ k = cc e in s)
listed h w d (suc n) (x ∷ xs) (suc q) k l e = listed h w d n xs q k (omega (arith, l)) e

-- a logger's list, made of that of the name above
pub own-list : (ns : List Text) (ls : List LoggerSetting) (names : List Text) (above : List (Option ℕ)) (lists : List (List ℕ)) (v : List ℕ) (i : ℕ) (l : LoggerSetting) (up : Option ℕ) (given made : List ℕ)
    → Rise (keys_of names) → AreAbove names above → slice_get ls i ≡ Some l → slice_get names i ≡ Some l.name → slice_get above i ≡ Some up
    → ((q : ℕ) (k : Text) → q < i → slice_get names q ≡ Some k → get_or lists q [] ≡ walk (chained ns ls) (name_at names) v (components k))
    → given ≡ option_map_or (λ q. get_or lists q []) up v → made ≡ places ns l.appenders ++ (if l.additive then given else [])
    → made ≡ walk (chained ns ls) (name_at names) v (components l.name)
own-list ns ls names above lists v i l up given made rise all lt there told are g m =
    let t = components l.name in
    let over : List ℕ = walk (chained ns ls) (name_at names) v (parents t) in
    let given_is : given ≡ over =
    g ∙ parent-walk (chained ns ls) (λ x. refl) names v l.name lists [] up (all i l.name up there told)
    (λ q k is kt. are q k (above-lower names above i l.name q rise all there (told ∙ ap (λ (o : Option ℕ). Some o) is)) kt) in
    let here : name_at names t ≡ Some i = sym (by_keys components t names (Some i) (found (keys_of names) t i t rise (key-there names i l.name there) (same_parts t))) in
    m ∙ (ap (λ (x : List ℕ). places ns l.appenders ++ (if l.additive then x else [])) given_is
    ∙ (sym (ap (λ (o : Option LoggerSetting). option_map_or (λ logger. places ns logger.appenders ++ (if logger.additive then over else [])) o over) lt)
    ∙ (sym (ap (λ (o : Option ℕ). chained ns ls o over) here) ∙ sym (whole-walk (chained ns ls) (name_at names) v l.name))))

pub if-below : (o : Option ℕ) (n : ℕ) → ((up : ℕ) → o ≡ Some up → up < n) → IfSome o (λ up. up < n)
if-below None n h = tt
if-below (Some up) n h = h up refl
