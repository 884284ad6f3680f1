-- What a search by digests alone leaves of names.
use Rattle.std.proofs.Common.{◌≡◌, map, ℕ, ◌<◌, ◌≤◌, ◌+◌, ◌-◌, ◌/◌, List, [], ◌∷◌, ◌++◌, Option, Some, None, All, length, slice_get, refl, sym, ap, ◌∙◌, subst, arith, ⊎_elim, ◌⊎◌, inl, inr, drop, min}
use Rattle.std.specs.declared.cmp.Ordering.TheVariants.{Less, Greater}
use Rattle.std.proofs.lemmas.List.{drop_all, length-map}
use Rattle.log4rs_base.specs.Text.{Text}
use Rattle.log4rs_config.specs.declared.order.Digests.{Digests}
use Rattle.log4rs_config.specs.declared.order.Standing.{Standing}
use Rattle.log4rs_config.specs.declared.order.Standing.TheVariants.{Same, Begins, Before, Behind}
use Rattle.log4rs_config.specs.Digests.{BeginsWith, IsDigested, digest_behind}
use Rattle.log4rs_config.specs.Name.{components}
use Rattle.log4rs_config.specs.Order.{parts_cmp, Rise}
use Rattle.log4rs_config.specs.Seeks.{AllAbove, AllBelow, CanHalve, IsIndexed, Seeks, keys_of}
use Rattle.log4rs_config.specs.Walk.{longest, name_at}
use Rattle.log4rs_config.specs.Standing.{tokens, next, width, AreShared, IsKnown, Stands}
use Rattle.log4rs_config.proofs.Alike.{begins-too, digest-less, digest-more, leaves-early}
use Rattle.log4rs_config.proofs.Climbing.{mapped-get}
use Rattle.log4rs_config.proofs.Halving.{either, halves, high_falls, low_rises}
use Rattle.log4rs_config.proofs.Rising.{within, length-same}
use Rattle.log4rs_config.proofs.Seeking.{key-there, none-governs-alone, seek-high, seek-low, seek-none}
use Rattle.log4rs_config.proofs.Sharing.{all-at, all-share, lesser-of, there-is}
use Rattle.log4rs_config.proofs.Tokens.{drop-tokens}

-- the digest of the name at a place
digest_there : (d : Digests) (names : List Text) (at : ℕ) (name : Text) → IsDigested d names → slice_get names at ≡ Some name
    → slice_get d.values.items at ≡ Some (digest_behind (length d.common.items) name)
digest_there d names at name is there = ap (λ (xs : List ℕ). slice_get xs at) is.values ∙ mapped-get (digest_behind (length d.common.items)) names at name there

-- there are as many digests as entries
pub as-many : {X : Type 0} (key : X → Text) (entries : List X) (d : Digests) → IsDigested d (map key entries) → length d.values.items ≡ length entries
as-many key entries d is =
    ap (λ (xs : List ℕ). length xs) is.values ∙ (length-map (map key entries) (digest_behind (length d.common.items)) ∙ length-map entries key)

-- what is between the places is left, if the target begins as all names do
narrowed : (d : Digests) (names : List Text) (target : Text) (common wanted low high : ℕ) → Rise (keys_of names) → IsDigested d names → BeginsWith d.common.items target
    → All (λ b. b < 256) target → common ≡ length d.common.items → wanted ≡ digest_behind (length d.common.items) target → low ≤ high → high ≤ length d.values.items
    → ((value : ℕ) → 0 < low → slice_get d.values.items (low - 1) ≡ Some value → value < wanted)
    → ((value : ℕ) → slice_get d.values.items high ≡ Some value → wanted < value) → Seeks names target common low high common common None
narrowed d names target common wanted low high rise is begins bytes c w lh hv less more =
    record {
      ordered = lh;
      within_all = inside;
      below = ⊎_elim (λ (some : 0 < low). subst (AllBelow (keys_of names) (components target)) (omega (arith, some)) (rises some)) (λ (none : low ≤ 0). λ i a l at. absurd (omega (arith, l, none))) (either 0 low);
      above = ⊎_elim falls (λ (end : length names ≤ high). λ i a l at. absurd (let m = within (keys_of names) i a at in omega (arith, l, m, end, length-same components names))) (either high (length names));
      lows = ⊎_elim (λ (some : 0 < low). let (e, there) = last some in inr (e, low - 1, omega (arith, some), there, (shares e (low - 1) there, tt))) (λ (none : low ≤ 0). inl (omega (arith, none), refl)) (either 0 low);
      highs = inl refl;
    }
  where
    inside : high ≤ length names
    inside = let long = ap (λ (xs : List ℕ). length xs) is.values in omega (arith, hv, long, length-map names (digest_behind (length d.common.items)))

    shares : (e : Text) (at : ℕ) → slice_get names at ≡ Some e → AreShared e target common
    shares e at there = subst (λ (n : ℕ). AreShared e target n) (sym c) (all-share d names target is begins at e there)

    last : 0 < low → (e : Text) × (slice_get names (low - 1) ≡ Some e)
    last some = there-is names (low - 1) (omega (arith, some, lh, inside))

    rises : 0 < low → AllBelow (keys_of names) (components target) (low - 1 + 1)
    rises some =
        let (e, there) = last some in
        low_rises (keys_of names) (components target) (low - 1) (components e) rise (key-there names (low - 1) e there)
        (digest-less e target d.common.items (all-at (BeginsWith d.common.items) names (low - 1) e is.common there) begins bytes
        (let l = less (digest_behind (length d.common.items) e) some (digest_there d names (low - 1) e is there) in omega (arith, l, w)))

    falls : high < length names → AllAbove (keys_of names) (components target) high
    falls l =
        let (e, there) = there-is names high l in
        high_falls (keys_of names) (components target) high (components e) rise (key-there names high e there)
        (digest-more e target d.common.items (all-at (BeginsWith d.common.items) names high e is.common there) begins (all-at (All (λ b. b < 256)) names high e is.bytes there)
        (let m = more (digest_behind (length d.common.items) e) (digest_there d names high e is there) in omega (arith, m, w)))

-- the name that is compared first stands before the target
first-less : (names : List Text) (target : Text) (common low high place shared : ℕ) (m : Text) (told : Option Standing) → Rise (keys_of names)
    → Seeks names target common low high common common None → (low < high → place ≡ (low + high) / 2) → (high ≤ low → place ≡ low - 1) → slice_get names place ≡ Some m
    → parts_cmp (components m) (components target) ≡ Less → IsKnown m target told shared → Seeks names target common (place + 1) high shared common told
first-less names target common low high place shared m told rise s middle front at less known = by_size (either low high)
  where
    here : slice_get (keys_of names) place ≡ Some (components m)
    here = key-there names place m at

    at_end : high ≤ low → (0 < low) ⊎ (low ≤ 0) → Seeks names target common (place + 1) high shared common told
    at_end l (inl some) =
        let n : low ≡ place + 1 = omega (arith, front l, some) in
        record {
          ordered = omega (arith, n, s.ordered);
          within_all = s.within_all;
          below = subst (AllBelow (keys_of names) (components target)) n s.below;
          above = s.above;
          lows = inr (m, place, refl, at, known);
          highs = inl refl;
        }
    at_end l (inr none) = let f = sym less ∙ s.above place (components m) (omega (arith, l, none)) here in absurd (cc f)

    by_size : (low < high) ⊎ (high ≤ low) → Seeks names target common (place + 1) high shared common told
    by_size (inl l) = seek-low names target common low high place common common shared None told m rise s (omega (arith, middle l, l)) at less known
    by_size (inr l) = at_end l (either 0 low)

-- it stands behind the target
first-greater : (names : List Text) (target : Text) (common low high place shared : ℕ) (m : Text) → Rise (keys_of names)
    → Seeks names target common low high common common None → (low < high → place ≡ (low + high) / 2) → (high ≤ low → place ≡ low - 1) → slice_get names place ≡ Some m
    → parts_cmp (components m) (components target) ≡ Greater → AreShared m target shared → Seeks names target common low place common shared None
first-greater names target common low high place shared m rise s middle front at greater are = by_size (either low high)
  where
    here : slice_get (keys_of names) place ≡ Some (components m)
    here = key-there names place m at

    at_end : high ≤ low → (0 < low) ⊎ (low ≤ 0) → Seeks names target common low place common shared None
    at_end l (inl some) = let f = sym greater ∙ s.below place (components m) (omega (arith, front l, some)) here in absurd (cc f)
    at_end l (inr none) =
        let z : place ≡ high = omega (arith, front l, none, s.ordered, l) in
        record {
          ordered = omega (arith, none);
          within_all = omega (arith, z, s.within_all);
          below = s.below;
          above = subst (AllAbove (keys_of names) (components target)) (sym z) s.above;
          lows = s.lows;
          highs = inr (m, at, are);
        }

    by_size : (low < high) ⊎ (high ≤ low) → Seeks names target common low place common shared None
    by_size (inl l) = seek-high names target common low high place common common shared None m rise s (omega (arith, middle l)) (omega (arith, middle l, l)) at greater are
    by_size (inr l) = at_end l (either 0 low)

-- what two lists of tokens begin with, up to where they part
abbrev Part : List ℕ → List ℕ → Type 0
Part ts us = (front : List ℕ) × (rest : List ℕ) × (more : List ℕ) × (ts ≡ front ++ rest) × (us ≡ front ++ more) × (next rest ≡ next more → next rest ≡ 0)

part-later : (t u : ℕ) (ts us : List ℕ) → (t < u) ⊎ (u ≤ t) → (u < t) ⊎ (t ≤ u) → Part ts us → Part (t ∷ ts) (u ∷ us)
part-later t u ts us (inl l) _ _ = ([], t ∷ ts, u ∷ us, refl, refl, (λ e. absurd (omega (arith, l, e))))
part-later t u ts us (inr _) (inl l) _ = ([], t ∷ ts, u ∷ us, refl, refl, (λ e. absurd (omega (arith, l, e))))
part-later t u ts us (inr l) (inr m) (front, rest, more, left, right, apart) =
    let is : u ≡ t = omega (arith, l, m) in
    (t ∷ front, rest, more, ap (λ (xs : List ℕ). t ∷ xs) left, ap (λ (x : ℕ). x ∷ us) is ∙ ap (λ (xs : List ℕ). t ∷ xs) right, apart)

part-of : (ts us : List ℕ) → Part ts us
part-of [] us = ([], [], us, refl, refl, (λ e. refl))
part-of (t ∷ ts) [] = ([], t ∷ ts, [], refl, refl, (λ e. e))
part-of (t ∷ ts) (u ∷ us) = part-later t u ts us (either t u) (either u t) (part-of ts us)

-- how tokens stand that are not the same
which-stands : (a b : ℕ) → (a ≡ b → a ≡ 0) → (standing : Standing) × Stands standing a b
which-stands a b apart = by_size (either b a) (either a b) (either 1 b)
  where
    by_size : (b < a) ⊎ (a ≤ b) → (a < b) ⊎ (b ≤ a) → (1 < b) ⊎ (b ≤ 1) → (standing : Standing) × Stands standing a b
    by_size (inl l) _ _ = (Behind, l)
    by_size (inr _) (inl l) (inl m) = (Before, (l, m))
    by_size (inr _) (inl l) (inr m) = (Begins, (omega (arith, l, m), omega (arith, l, m)))
    by_size (inr l) (inr m) _ = let same : a ≡ b = omega (arith, l, m) in let z = apart same in (Same, (z, omega (arith, z, same)))

-- each name shares something with a target, and stands to it in some way
compared : (name target : Text) → (s : ℕ) × (standing : Standing) × AreShared name target s × Stands standing (next (tokens (drop s name))) (next (tokens (drop s target)))
compared name target =
    let (front, rest, more, n, t, apart) = part-of (tokens name) (tokens target) in
    let left : tokens (drop (width front) name) ≡ rest = drop-tokens name front rest n in
    let right : tokens (drop (width front) target) ≡ more = drop-tokens target front more t in
    let (standing, stands) = which-stands (next rest) (next more) apart in (
      width front,
      standing,
      (front, n ∙ ap (λ (xs : List ℕ). front ++ xs) (sym left), t ∙ ap (λ (xs : List ℕ). front ++ xs) (sym right), refl),
      subst (λ (xs : List ℕ). Stands standing (next xs) (next (tokens (drop (width front) target)))) (sym left) (subst (λ (xs : List ℕ). Stands standing (next rest) (next xs)) (sym right) stands),
    )

-- where all digests stand behind the target's, no name governs it
pub none-in-front : (d : Digests) (names : List Text) (target : Text) (wanted : ℕ) → IsIndexed d names → All (λ b. b < 256) target → wanted ≡ digest_behind (length d.common.items) target
    → ((value : ℕ) → slice_get d.values.items 0 ≡ Some value → wanted < value) → None ≡ longest (name_at names) None (components target)
none-in-front d names target wanted is bytes w more = by_names (either 0 (length names))
  where
    by_shared : (e : Text) → slice_get names 0 ≡ Some e → None ≡ longest (name_at names) None (components target)
    by_shared e there =
        let common = d.common.items in
        let begins = all-at (BeginsWith common) names 0 e is.digested.common there in
        let (s, standing, are, stands) = compared e target in
        ⊎_elim (λ (l : s < length common). leaves-early standing names common e target s is.digested.common begins are stands l)
        (λ (l : length common ≤ s).
        seek-none names target (length common) 0 0 (length common) (length common) None
        (narrowed d names target (length common) wanted 0 0 is.rising is.digested (begins-too common e target s begins are l) bytes refl w (omega arith) (omega arith) (λ value some at. absurd (omega (arith, some))) more)
        (omega arith) refl)
        (either s (length common))

    by_names : (0 < length names) ⊎ (length names ≤ 0) → None ≡ longest (name_at names) None (components target)
    by_names (inl some) = let (e, there) = there-is names 0 some in by_shared e there
    by_names (inr none) = sym (none-governs-alone names (components target) (omega (arith, none)))

-- a smaller part
pub smaller : (less size turns most : ℕ) → less ≤ size → CanHalve size turns most → CanHalve less turns most
smaller less size turns most l (left, room, few) = (left, room, omega (arith, few, l))

-- half of a part takes one comparison
pub half-left : (size turns now most : ℕ) → 0 < size → now ≡ turns + 1 → CanHalve size turns most → CanHalve (size / 2) now most
half-left size turns now most some one (left, room, few) = let (k, more, half) = halves size left some few in (k, omega (arith, one, room, more), half)

-- a search by digests alone has ended, and the name that is compared first
pub record FirstName (d : Digests) (names : List Text) (wanted low high seen : ℕ) (name : Text) : Type 0 where
  pub ordered : low ≤ high
  pub within_all : high ≤ length d.values.items
  pub below : (value : ℕ) → 0 < low → slice_get d.values.items (low - 1) ≡ Some value → value < wanted
  pub above : (value : ℕ) → slice_get d.values.items high ≡ Some value → wanted < value
  pub middle : low < high → seen - 1 ≡ (low + high) / 2
  pub front : high ≤ low → seen - 1 ≡ low - 1
  pub some : seen - 1 + 1 ≡ seen
  pub there : slice_get names (seen - 1) ≡ Some name
  pub begins : BeginsWith d.common.items name

pub first-name : {X : Type 0} (key : X → Text) (entries : List X) (d : Digests) (wanted low high seen : ℕ) (name : Text) → IsDigested d (map key entries)
    → (low ≤ high) × (high ≤ length entries) → ((value : ℕ) → 0 < low → slice_get d.values.items (low - 1) ≡ Some value → value < wanted)
    → ((value : ℕ) → slice_get d.values.items high ≡ Some value → wanted < value)
    → (low < high → (seen ≡ (low + high) / 2 + 1) × (slice_get d.values.items (seen - 1) ≡ Some wanted)) → (high ≤ low → seen ≡ low)
    → 0 < seen → slice_get (map key entries) (seen - 1) ≡ Some name → FirstName d (map key entries) wanted low high seen name
first-name {X} key entries d wanted low high seen name is (ordered, within) less more middle front some there =
    record {
      ordered = ordered;
      within_all = omega (arith, within, as-many key entries d is);
      below = less;
      above = more;
      middle = λ l. let m = (middle l).0 in omega (arith, m);
      front = λ l. let f = front l in omega (arith, f);
      some = omega (arith, some);
      there = there;
      begins = all-at (BeginsWith d.common.items) (map key entries) (seen - 1) name is.common there;
    }

-- what is left where that name stands before the target
pub first-low : (d : Digests) (names : List Text) (target : Text) (wanted low high seen shared right : ℕ) (e : Text) (standing : Standing) → IsIndexed d names
    → All (λ b. b < 256) target → wanted ≡ digest_behind (length d.common.items) target → FirstName d names wanted low high seen e → IsKnown e target (Some standing) shared
    → parts_cmp (components e) (components target) ≡ Less → right ≡ length d.common.items → right ≤ shared
    → BeginsWith d.common.items target × Seeks names target (length d.common.items) seen high shared right (Some standing)
first-low d names target wanted low high seen shared right e standing is bytes w f known less r l =
    let begins = begins-too d.common.items e target shared f.begins known.0 (omega (arith, r, l)) in
    let seeks = narrowed d names target (length d.common.items) wanted low high is.rising is.digested begins bytes refl w f.ordered f.within_all f.below f.above in (
      begins,
      subst (λ (n : ℕ). Seeks names target (length d.common.items) seen high shared n (Some standing)) (sym r)
          (subst (λ (n : ℕ). Seeks names target (length d.common.items) n high shared (length d.common.items) (Some standing)) f.some
          (first-less names target (length d.common.items) low high (seen - 1) shared e (Some standing) is.rising seeks f.middle f.front f.there less known)),
    )

-- behind it
pub first-high : (d : Digests) (names : List Text) (target : Text) (wanted low high seen place shared left : ℕ) (e : Text) (standing : Standing) → IsIndexed d names
    → All (λ b. b < 256) target → wanted ≡ digest_behind (length d.common.items) target → FirstName d names wanted low high seen e → IsKnown e target (Some standing) shared
    → parts_cmp (components e) (components target) ≡ Greater → left ≡ length d.common.items → left ≤ shared → seen - 1 ≡ place
    → BeginsWith d.common.items target × Seeks names target (length d.common.items) low place left shared None
first-high d names target wanted low high seen place shared left e standing is bytes w f known greater r l p =
    let begins = begins-too d.common.items e target shared f.begins known.0 (omega (arith, r, l)) in
    let seeks = narrowed d names target (length d.common.items) wanted low high is.rising is.digested begins bytes refl w f.ordered f.within_all f.below f.above in (
      begins,
      subst (λ (n : ℕ). Seeks names target (length d.common.items) low n left shared None) p
          (subst (λ (n : ℕ). Seeks names target (length d.common.items) low (seen - 1) n shared None) (sym r)
          (first-greater names target (length d.common.items) low high (seen - 1) shared e is.rising seeks f.middle f.front f.there greater known.0)),
    )

-- behind a text, or behind its own end
pub drop-within : (n m : ℕ) (t : Text) → m ≡ min n (length t) → drop m t ≡ drop n t
drop-within n m t is =
    ⊎_elim (λ (z : (m ≡ n) × (n ≤ length t)). ap (λ (k : ℕ). drop k t) z.0)
    (λ (z : (m ≡ length t) × (length t ≤ n)). drop_all m t (omega (arith, z.0)) ∙ sym (drop_all n t z.1))
    (lesser-of m n (length t) is)
