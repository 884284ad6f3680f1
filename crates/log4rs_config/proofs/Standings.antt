-- What is known of a name and a target that share their first tokens.
use Rattle.std.proofs.Common.{◌≡◌, ℕ, ◌<◌, ◌≤◌, ◌+◌, ◌-◌, zero, suc, List, [], ◌∷◌, ◌++◌, length, take, drop, refl, sym, ap, ◌∙◌, arith, append_assoc, ◌⊎◌, inl, inr}
use Rattle.std.specs.declared.cmp.Ordering.{Ordering}
use Rattle.std.specs.declared.cmp.Ordering.TheVariants.{Less, Greater}
use Rattle.std.specs.Ordering.{nat_cmp, ordering_then}
use Rattle.std.specs.Cmp.Lexicographic.{slice_cmp}
use Rattle.std.proofs.lemmas.List.{append-nil}
use Rattle.log4rs_base.specs.Text.{Text}
use Rattle.log4rs_config.specs.Name.{in_front, components}
use Rattle.log4rs_config.specs.Above.{parents}
use Rattle.log4rs_config.specs.declared.order.Standing.{Standing}
use Rattle.log4rs_config.specs.declared.order.Standing.TheVariants.{Same, Begins, Before, Behind}
use Rattle.log4rs_config.specs.Order.{parts_cmp}
use Rattle.log4rs_config.specs.Standing.{tokens, next, width, last_start, AreShared, Stands, order_of}
use Rattle.log4rs_config.proofs.Tokens.{parts_of, parts-tokens, first-of_parts, less_cmp, more_cmp, name-order, width-append, width-tokens, front-cmp, between, shorter-front, drop-tokens, take-tokens}

next_is : (ts : List ℕ) (p : ℕ) → next ts ≡ suc p → (more : List ℕ) × (ts ≡ p ∷ more)
next_is [] p e = absurd (omega (arith, e))
next_is (t ∷ ts) p e = let same : t ≡ p = omega (arith, e) in (ts, ap (λ (x : ℕ). x ∷ ts) same)

next_ends : (ts : List ℕ) → next ts ≡ 0 → ts ≡ []
next_ends [] e = refl
next_ends (t ∷ ts) e = absurd (omega (arith, e))

-- what is shared lies within the names
pub shared-within : (name target : Text) (s : ℕ) → AreShared name target s → (s ≤ length name) × (s ≤ length target)
shared-within name target s (front, n, t, b) =
    let wn = ap width n in
    let wt = ap width t in (
      omega (arith, b, wn, width-append front (tokens (drop s name)), width-tokens name),
      omega (arith, b, wt, width-append front (tokens (drop s target)), width-tokens target),
    )

one_further : (name : Text) (front : List ℕ) (p : ℕ) (n m : ℕ) → tokens name ≡ front ++ tokens (drop n name) → next (tokens (drop n name)) ≡ suc p → m ≡ width (front ++ p ∷ [])
    → tokens name ≡ (front ++ p ∷ []) ++ tokens (drop m name)
one_further name front p n m e is w =
    let (more, f) = next_is (tokens (drop n name)) p is in
    let whole : tokens name ≡ (front ++ p ∷ []) ++ more = e ∙ (ap (λ (x : List ℕ). front ++ x) f ∙ sym (append_assoc front (p ∷ []) more)) in
    let left : tokens (drop m name) ≡ more = ap (λ (k : ℕ). tokens (drop k name)) w ∙ drop-tokens name (front ++ p ∷ []) more whole in
    whole ∙ ap (λ (x : List ℕ). (front ++ p ∷ []) ++ x) (sym left)

-- a token more is shared
pub token-shared : (name target : Text) (n m p left right : ℕ) → AreShared name target n → left ≡ next (tokens (drop n name)) → right ≡ next (tokens (drop n target))
    → left ≡ right → left ≡ suc p → m ≡ n + width (p ∷ []) → AreShared name target m
token-shared name target n m p left right (front, l, t, b) ln rt same is more =
    let wide = width-append front (p ∷ []) in
    let w : m ≡ width (front ++ p ∷ []) = omega (arith, more, b, wide) in (
      front ++ p ∷ [],
      one_further name front p n m l (omega (arith, ln, is)) w,
      one_further target front p n m t (omega (arith, rt, same, is)) w,
      w,
    )

less_next : (xs ys : List ℕ) → next xs < next ys → slice_cmp nat_cmp xs ys ≡ Less
less_next [] [] l = absurd (omega (arith, l))
less_next [] (y ∷ ys) l = refl
less_next (x ∷ xs) [] l = absurd (omega (arith, l))
less_next (x ∷ xs) (y ∷ ys) l = ap (λ (o : Ordering). ordering_then o (slice_cmp nat_cmp xs ys)) (less_cmp x y (omega (arith, l)))

more_next : (xs ys : List ℕ) → next ys < next xs → slice_cmp nat_cmp xs ys ≡ Greater
more_next [] ys l = absurd (omega (arith, l))
more_next (x ∷ xs) [] l = refl
more_next (x ∷ xs) (y ∷ ys) l = ap (λ (o : Ordering). ordering_then o (slice_cmp nat_cmp xs ys)) (more_cmp x y (omega (arith, l)))

rest_order : (standing : Standing) (xs ys : List ℕ) → Stands standing (next xs) (next ys) → slice_cmp nat_cmp xs ys ≡ order_of standing
rest_order Same xs ys (a, b) = ap (λ (x : List ℕ). slice_cmp nat_cmp x ys) (next_ends xs a) ∙ ap (slice_cmp nat_cmp []) (next_ends ys b)
rest_order Begins xs ys (a, b) = less_next xs ys (omega (arith, a, b))
rest_order Before xs ys (l, _) = less_next xs ys l
rest_order Behind xs ys l = more_next xs ys l

-- the standing is the order of components
pub standing-order : (name target : Text) (s : ℕ) (standing : Standing) → AreShared name target s
    → Stands standing (next (tokens (drop s name))) (next (tokens (drop s target))) → parts_cmp (components name) (components target) ≡ order_of standing
standing-order name target s standing (front, n, t, _) is =
    name-order name target
    ∙ (ap (λ (x : List ℕ). slice_cmp nat_cmp x (tokens target)) n
    ∙ (ap (slice_cmp nat_cmp (front ++ tokens (drop s name))) t
    ∙ (front-cmp front (tokens (drop s name)) (tokens (drop s target))
    ∙ rest_order standing (tokens (drop s name)) (tokens (drop s target)) is)))

-- what stands between a name and another, that share tokens with the target, shares them too
pub middle-shares : (low middle high target : Text) (l h : ℕ) → AreShared low target l → AreShared high target h → l ≤ h
    → parts_cmp (components low) (components middle) ≡ Less → parts_cmp (components middle) (components high) ≡ Less → AreShared middle target l
middle-shares low middle high target l h (front, ln, lt, lb) (more, hn, ht, hb) less below above =
    let (rest, longer) = shorter-front front more (tokens (drop l target)) (tokens (drop h target)) (sym lt ∙ ht) (omega (arith, lb, hb, less)) in
    let high_tokens : tokens high ≡ front ++ (rest ++ tokens (drop h high)) = hn ∙ (ap (λ (x : List ℕ). x ++ tokens (drop h high)) longer ∙ append_assoc front rest (tokens (drop h high))) in
    let (left, e) = between front (tokens (drop l low)) (tokens middle) (rest ++ tokens (drop h high))
    (ap (λ (x : List ℕ). slice_cmp nat_cmp x (tokens middle)) (sym ln) ∙ (sym (name-order low middle) ∙ below))
    (ap (slice_cmp nat_cmp (tokens middle)) (sym high_tokens) ∙ (sym (name-order middle high) ∙ above)) in
    (front, e ∙ ap (λ (x : List ℕ). front ++ x) (sym (ap (λ (n : ℕ). tokens (drop n middle)) lb ∙ drop-tokens middle front left e)), lt, lb)

pub middle-shares_high : (low middle high target : Text) (l h : ℕ) → AreShared low target l → AreShared high target h → h ≤ l
    → parts_cmp (components low) (components middle) ≡ Less → parts_cmp (components middle) (components high) ≡ Less → AreShared middle target h
middle-shares_high low middle high target l h (more, ln, lt, lb) (front, hn, ht, hb) less below above =
    let (rest, longer) = shorter-front front more (tokens (drop h target)) (tokens (drop l target)) (sym ht ∙ lt) (omega (arith, lb, hb, less)) in
    let low_tokens : tokens low ≡ front ++ (rest ++ tokens (drop l low)) = ln ∙ (ap (λ (x : List ℕ). x ++ tokens (drop l low)) longer ∙ append_assoc front rest (tokens (drop l low))) in
    let (left, e) = between front (rest ++ tokens (drop l low)) (tokens middle) (tokens (drop h high))
    (ap (λ (x : List ℕ). slice_cmp nat_cmp x (tokens middle)) (sym low_tokens) ∙ (sym (name-order low middle) ∙ below))
    (ap (slice_cmp nat_cmp (tokens middle)) (sym hn) ∙ (sym (name-order middle high) ∙ above)) in
    (front, e ∙ ap (λ (x : List ℕ). front ++ x) (sym (ap (λ (n : ℕ). tokens (drop n middle)) hb ∙ drop-tokens middle front left e)), ht, hb)

-- who shares more, shares less
pub less-shared : (name other target : Text) (less more : ℕ) → AreShared name target less → AreShared other target more → less ≤ more → AreShared other target less
less-shared name other target less more (front, _, t, b) (long, o, u, w) l =
    let (rest, longer) = shorter-front front long (tokens (drop less target)) (tokens (drop more target)) (sym t ∙ u) (omega (arith, b, w, l)) in
    let e : tokens other ≡ front ++ (rest ++ tokens (drop more other)) = o ∙ (ap (λ (x : List ℕ). x ++ tokens (drop more other)) longer ∙ append_assoc front rest (tokens (drop more other))) in
    (front, e ∙ ap (λ (x : List ℕ). front ++ x) (sym (ap (λ (n : ℕ). tokens (drop n other)) b ∙ drop-tokens other front (rest ++ tokens (drop more other)) e)), t, b)

in_front_joined : (b : ℕ) (xs ys : List Text) → (p : Text) × (ps : List Text) × (xs ≡ p ∷ ps) → in_front b (xs ++ ys) ≡ in_front b xs ++ ys
in_front_joined b xs ys (p, ps, e) = ap (λ (x : List Text). in_front b (x ++ ys)) e ∙ ap (λ (x : List Text). in_front b x ++ ys) (sym e)

-- the components in front of a separator, and those behind it
parts-cut : (ps qs : List ℕ) → parts_of (ps ++ zero ∷ qs) ≡ parts_of ps ++ parts_of qs
parts-cut [] qs = refl
parts-cut (zero ∷ ps) qs = ap (λ (x : List Text). [] ∷ x) (parts-cut ps qs)
parts-cut (suc b ∷ ps) qs = ap (in_front b) (parts-cut ps qs) ∙ in_front_joined b (parts_of ps) (parts_of qs) (first-of_parts ps)

-- a name that begins the target
pub begins-parts : (name target : Text) (s : ℕ) → AreShared name target s → next (tokens (drop s name)) ≡ 0 → next (tokens (drop s target)) ≡ 1
    → (part : Text) × (more : List Text) × (components target ≡ components name ++ part ∷ more)
begins-parts name target s (front, n, t, _) ends goes =
    let (rest, e) = next_is (tokens (drop s target)) zero goes in
    let (part, more, first) = first-of_parts rest in
    let name_is : components name ≡ parts_of front = parts-tokens name ∙ ap parts_of (n ∙ (ap (λ (x : List ℕ). front ++ x) (next_ends (tokens (drop s name)) ends) ∙ append-nil front)) in (
      part,
      more,
      parts-tokens target ∙ (ap parts_of (t ∙ ap (λ (x : List ℕ). front ++ x) e) ∙ (parts-cut front rest
          ∙ (ap (λ (x : List Text). parts_of front ++ x) first ∙ ap (λ (x : List Text). x ++ part ∷ more) (sym name_is)))),
    )

-- the components that are whole in tokens that go on
abbrev add : ℕ → List Text → List Text
add c [] = []
add c (p ∷ ps) = (c ∷ p) ∷ ps

abbrev whole : List ℕ → List Text
whole [] = []
whole (zero ∷ ts) = [] ∷ whole ts
whole (suc c ∷ ts) = add c (whole ts)

record Leaves (xs ys cs : List Text) : Type 0 where
  part : Text
  parts : List Text
  other : Text
  others : List Text
  left : xs ≡ cs ++ part ∷ parts
  right : ys ≡ cs ++ other ∷ others
  apart : part ≡ other → ⊥

one_leaves : (c : ℕ) (xs ys cs : List Text) → Leaves xs ys cs → Leaves (in_front c xs) (in_front c ys) (add c cs)
one_leaves c xs ys [] l =
    record {
      part = c ∷ l.part;
      parts = l.parts;
      other = c ∷ l.other;
      others = l.others;
      left = ap (in_front c) l.left;
      right = ap (in_front c) l.right;
      apart = λ e. l.apart (cc e);
    }
one_leaves c xs ys (p ∷ ps) l =
    record {
      part = l.part;
      parts = l.parts;
      other = l.other;
      others = l.others;
      left = ap (in_front c) l.left;
      right = ap (in_front c) l.right;
      apart = l.apart;
    }

byte_leaves : (xs : List ℕ) (b : ℕ) (qs : List Text) → next xs < suc (suc b) → (q : Text) × (rest : List Text) × (qs ≡ q ∷ rest) → Leaves (parts_of xs) (in_front b qs) []
byte_leaves [] b qs l (q, rest, e) = record { part = []; parts = []; other = b ∷ q; others = rest; left = refl; right = ap (in_front b) e; apart = λ f. cc f }
byte_leaves (zero ∷ xs) b qs l (q, rest, e) = record { part = []; parts = parts_of xs; other = b ∷ q; others = rest; left = refl; right = ap (in_front b) e; apart = λ f. cc f }
byte_leaves (suc a ∷ xs) b qs l (q, rest, e) =
    let (p, ps, f) = first-of_parts xs in
    record {
      part = a ∷ p;
      parts = ps;
      other = b ∷ q;
      others = rest;
      left = ap (in_front a) f;
      right = ap (in_front b) e;
      apart = λ same. let is : a ≡ b = cc same in absurd (omega (arith, l, is));
    }

head_leaves : (xs ys : List ℕ) → next xs < next ys → 1 < next ys → Leaves (parts_of xs) (parts_of ys) []
head_leaves xs [] l big = absurd (omega (arith, big))
head_leaves xs (zero ∷ ys) l big = absurd (omega (arith, big))
head_leaves xs (suc b ∷ ys) l big = byte_leaves xs b (parts_of ys) l (first-of_parts ys)

leaves : (front xs ys : List ℕ) → next xs < next ys → 1 < next ys → Leaves (parts_of (front ++ xs)) (parts_of (front ++ ys)) (whole front)
leaves [] xs ys l big = head_leaves xs ys l big
leaves (zero ∷ front) xs ys l big =
    let r = leaves front xs ys l big in
    record {
      part = r.part;
      parts = r.parts;
      other = r.other;
      others = r.others;
      left = ap (λ (x : List Text). [] ∷ x) r.left;
      right = ap (λ (x : List Text). [] ∷ x) r.right;
      apart = r.apart;
    }
leaves (suc c ∷ front) xs ys l big = one_leaves c (parts_of (front ++ xs)) (parts_of (front ++ ys)) (whole front) (leaves front xs ys l big)

-- how many bytes components take, each with its separator
abbrev pub weight : List Text → ℕ
weight [] = 0
weight (part ∷ parts) = length part + 2 + weight parts

add_weight : (c : ℕ) (cs : List Text) → weight (add c cs) ≤ suc (weight cs)
add_weight c [] = omega arith
add_weight c (p ∷ ps) = omega arith

whole_weight : (front : List ℕ) → weight (whole front) ≤ width front
whole_weight [] = omega arith
whole_weight (zero ∷ front) = let e = whole_weight front in omega (arith, e)
whole_weight (suc c ∷ front) = let e = whole_weight front in omega (arith, e, add_weight c (whole front))

one_reaches : (c : ℕ) (xs ys cs : List Text) (r : Leaves xs ys cs) (n : ℕ) → n ≤ weight cs + length r.part → suc n ≤ weight (add c cs) + length (one_leaves c xs ys cs r).part
unfolding one_leaves
one_reaches c xs ys [] r n e = let more : length (one_leaves c xs ys [] r).part ≡ suc (length r.part) = refl in omega (arith, e, more)
one_reaches c xs ys (p ∷ ps) r n e = let same : length (one_leaves c xs ys (p ∷ ps) r).part ≡ length r.part = refl in omega (arith, e, same)

reaches : (front xs ys : List ℕ) (l : next xs < next ys) (big : 1 < next ys) → width front ≤ weight (whole front) + length (leaves front xs ys l big).part
unfolding leaves
reaches [] xs ys l big = omega arith
reaches (zero ∷ front) xs ys l big =
    let e = reaches front xs ys l big in
    let same : length (leaves (zero ∷ front) xs ys l big).part ≡ length (leaves front xs ys l big).part = refl in omega (arith, e, same)
reaches (suc c ∷ front) xs ys l big =
    one_reaches c (parts_of (front ++ xs)) (parts_of (front ++ ys)) (whole front) (leaves front xs ys l big) (width front) (reaches front xs ys l big)

-- where the last separator of tokens stands
data Cut (front : List ℕ) (at last : ℕ) : Type 0 where
  uncut : last_start at last front ≡ last → whole front ≡ [] → Cut front at last
  cut : (before after : List ℕ) → front ≡ before ++ zero ∷ after → last_start at last front ≡ at + width before + 2 → whole front ≡ parts_of before → Cut front at last

cut_zero : (front : List ℕ) (at last : ℕ) → Cut front (at + 2) (at + 2) → Cut (zero ∷ front) at last
cut_zero front at last (uncut s w) = cut [] front refl (s ∙ omega arith) (ap (λ (x : List Text). [] ∷ x) w)
cut_zero front at last (cut before after e s w) =
    cut (zero ∷ before) after (ap (λ (x : List ℕ). zero ∷ x) e) (s ∙ omega arith) (ap (λ (x : List Text). [] ∷ x) w)

add_first : (c : ℕ) (xs : List Text) → (p : Text) × (ps : List Text) × (xs ≡ p ∷ ps) → add c xs ≡ in_front c xs
add_first c xs (p, ps, e) = ap (add c) e ∙ ap (in_front c) (sym e)

cut_byte : (c : ℕ) (front : List ℕ) (at last : ℕ) → Cut front (at + 1) last → Cut (suc c ∷ front) at last
cut_byte c front at last (uncut s w) = uncut s (ap (add c) w)
cut_byte c front at last (cut before after e s w) =
    cut (suc c ∷ before) after (ap (λ (x : List ℕ). suc c ∷ x) e) (s ∙ omega arith) (ap (add c) w ∙ add_first c (parts_of before) (first-of_parts before))

cuts : (front : List ℕ) (at last : ℕ) → Cut front at last
cuts [] at last = uncut refl refl
cuts (zero ∷ front) at last = cut_zero front at last (cuts front (at + 2) (at + 2))
cuts (suc c ∷ front) at last = cut_byte c front at last (cuts front (at + 1) last)

-- the components that a name and the target share, where both go on with different ones
pub record Parted (name target : Text) (start : ℕ) : Type 0 where
  pub common : List Text
  pub part : Text
  pub parts : List Text
  pub other : Text
  pub others : List Text
  pub left : components name ≡ common ++ part ∷ parts
  pub right : components target ≡ common ++ other ∷ others
  pub apart : part ≡ other → ⊥
  pub cut : ((start ≡ 0) × (common ≡ [])) ⊎ ((1 < start) × (components (take (start - 2) target) ≡ common))

cut_parts : (target : Text) (front rest : List ℕ) (start : ℕ) → tokens target ≡ front ++ rest → start ≡ last_start 0 0 front → Cut front 0 0
    → ((start ≡ 0) × (whole front ≡ [])) ⊎ ((1 < start) × (components (take (start - 2) target) ≡ whole front))
cut_parts target front rest start t s (uncut e w) = inl (s ∙ e, w)
cut_parts target front rest start t s (cut before after e f w) =
    let split : tokens target ≡ before ++ (zero ∷ (after ++ rest)) = t ∙ (ap (λ (x : List ℕ). x ++ rest) e ∙ append_assoc before (zero ∷ after) rest) in
    let n : start - 2 ≡ width before = omega (arith, s, f) in
    inr (
      omega (arith, s, f),
      parts-tokens (take (start - 2) target) ∙ (ap parts_of (ap (λ (k : ℕ). tokens (take k target)) n ∙ take-tokens target before (zero ∷ (after ++ rest)) split) ∙ sym w),
    )

pub parted : (name target : Text) (s : ℕ) → AreShared name target s → next (tokens (drop s name)) < next (tokens (drop s target))
    → 1 < next (tokens (drop s target)) → Parted name target (last_start 0 0 (tokens (take s target)))
parted name target s (front, n, t, b) l big =
    let r = leaves front (tokens (drop s name)) (tokens (drop s target)) l big in
    let taken : tokens (take s target) ≡ front = ap (λ (k : ℕ). tokens (take k target)) b ∙ take-tokens target front (tokens (drop s target)) t in
    record {
      common = whole front;
      part = r.part;
      parts = r.parts;
      other = r.other;
      others = r.others;
      left = parts-tokens name ∙ (ap parts_of n ∙ r.left);
      right = parts-tokens target ∙ (ap parts_of t ∙ r.right);
      apart = r.apart;
      cut = cut_parts target front (tokens (drop s target)) (last_start 0 0 (tokens (take s target))) t (ap (last_start 0 0) taken) (cuts front 0 0);
    }

-- what is shared ends within the name's next component
pub parted-reach : (name target : Text) (s : ℕ) (are : AreShared name target s) (l : next (tokens (drop s name)) < next (tokens (drop s target))) (big : 1 < next (tokens (drop s target)))
    → (weight (parted name target s are l big).common ≤ s) × (s ≤ weight (parted name target s are l big).common + length (parted name target s are l big).part)
unfolding parted
parted-reach name target s (front, n, t, b) l big =
    let low = whole_weight front in
    let high = reaches front (tokens (drop s name)) (tokens (drop s target)) l big in
    let common : weight (parted name target s (front, n, t, b) l big).common ≡ weight (whole front) = refl in
    let part : length (parted name target s (front, n, t, b) l big).part ≡ length (leaves front (tokens (drop s name)) (tokens (drop s target)) l big).part = refl in
    (omega (arith, low, b, common), omega (arith, high, b, common, part))

more_front : (q : Text) (xs : List Text) → (p : Text) × (ps : List Text) × (xs ≡ p ∷ ps) → q ∷ take (length xs - 1) xs ≡ take (length (q ∷ xs) - 1) (q ∷ xs)
more_front q xs (p, ps, e) =
    let long = ap (λ (x : List Text). length x) e in
    let n : length (q ∷ xs) - 1 ≡ suc (length xs - 1) = omega (arith, long) in
    sym (ap (λ (k : ℕ). take k (q ∷ xs)) n)

same_front : (c : ℕ) (p : Text) (ps : List Text) → add c (take (length ps) (p ∷ ps)) ≡ take (length ps) ((c ∷ p) ∷ ps)
same_front c p [] = refl
same_front c p (r ∷ rs) = refl

front_more : (c : ℕ) (p : Text) (ps : List Text) → add c (parents (p ∷ ps)) ≡ parents ((c ∷ p) ∷ ps)
front_more c p ps =
    let n : length (p ∷ ps) - 1 ≡ length ps = omega arith in
    let m : length ((c ∷ p) ∷ ps) - 1 ≡ length ps = omega arith in
    ap (λ (k : ℕ). add c (take k (p ∷ ps))) n ∙ (same_front c p ps ∙ sym (ap (λ (k : ℕ). take k ((c ∷ p) ∷ ps)) m))

-- what is whole are the components but the last
whole-parents : (ts : List ℕ) → whole ts ≡ parents (parts_of ts)
whole-parents [] = refl
whole-parents (zero ∷ ts) = ap (λ (x : List Text). [] ∷ x) (whole-parents ts) ∙ more_front [] (parts_of ts) (first-of_parts ts)
whole-parents (suc c ∷ ts) =
    let (p, ps, e) = first-of_parts ts in
    ap (add c) (whole-parents ts) ∙ (ap (λ (x : List Text). add c (parents x)) e ∙ (front_more c p ps ∙ sym (ap (λ (x : List Text). parents (in_front c x)) e)))
