-- Steps upward from the name in front of a target's place, by what both share.
use Rattle.std.proofs.Common.{◌≡◌, ℕ, ◌<◌, ◌≤◌, ◌+◌, ◌-◌, List, ◌∷◌, ◌++◌, Option, Some, None, length, map, take, drop, get_or, slice_get, nat_lt, true, refl, sym, ap, ◌∙◌, subst, arith, ⊎_elim}
use Rattle.std.specs.Str.{bytes_eq}
use Rattle.std.specs.Cmp.Lexicographic.{pointwise}
use Rattle.std.proofs.lemmas.Bool.Decides.{Decides-ltb}
use Rattle.std.proofs.lemmas.List.{length-map, take-append-drop}
use Rattle.std.proofs.lemmas.Option.{get_or_from_slice_get, slice_get-get_or, slice_get_within}
use Rattle.std.proofs.lemmas.Slice.Eq.{bytes_eq-Decides, slice_eq-Decides}
use Rattle.log4rs_base.specs.Text.{Text}
use Rattle.log4rs_config.specs.declared.order.Standing.TheVariants.{Before}
use Rattle.log4rs_config.specs.Above.{AreAbove}
use Rattle.log4rs_config.specs.Name.{components}
use Rattle.log4rs_config.specs.Order.{Rise}
use Rattle.log4rs_config.specs.Seeks.{StandsBehind, keys_of}
use Rattle.log4rs_config.specs.Standing.{tokens, next, last_start, AreShared, Stands}
use Rattle.log4rs_config.specs.Walk.{longest, name_at}
use Rattle.log4rs_config.proofs.Climbing.{Found, nobody, somebody, finds, mapped-get, none_front, take-within, weight-name, weight-append}
use Rattle.log4rs_config.proofs.Halving.{either}
use Rattle.log4rs_config.proofs.Searches.{found-longest}
use Rattle.log4rs_config.proofs.Seeking.{ends_parted, key-there, length-front, longest-skips, take-longer}
use Rattle.log4rs_config.proofs.Settled.{position_at}
use Rattle.log4rs_config.proofs.Sharing.{there-is}
use Rattle.log4rs_config.proofs.Standings.{parted, parted-reach, weight}

-- the name at the place has the components that it shares with the target, then one in which what is shared ends
pub record Climbs (names : List Text) (target : Text) (shared at : ℕ) : Type 0 where
  pub front : List Text
  pub part : Text
  pub governs : longest (name_at names) None (components target) ≡ longest (name_at names) None front
  pub from : weight front ≤ shared
  pub to : shared ≤ weight front + length part
  pub below : (name : Text) → slice_get names at ≡ Some name → (parts : List Text) × (components name ≡ front ++ part ∷ parts)

pub climb-begins : (names : List Text) (target : Text) (at shared : ℕ) (e : Text) → Rise (keys_of names) → StandsBehind names target at → slice_get names at ≡ Some e → AreShared e target shared
    → Stands Before (next (tokens (drop shared e))) (next (tokens (drop shared target))) → Climbs names target shared at
climb-begins names target at shared e rise (below, above) there are (l, big) =
    let p = parted e target shared are l big in
    let (from, to) = parted-reach e target shared are l big in
    let less = below at (components e) (omega arith) (key-there names at e there) in
    record {
      front = p.common;
      part = p.part;
      governs = ends_parted names target at (at + 1) e rise (omega arith) above there less (last_start 0 0 (tokens (take shared target))) p;
      from = from;
      to = to;
      below = λ name here. let is : e ≡ name = cc (there, here) in (p.parts, sym (ap components is) ∙ p.left);
    }

-- what a step upward comes to
abbrev pub Stepped : List Text → Text → ℕ → Option ℕ → Type 0
Stepped names target shared None = None ≡ longest (name_at names) None (components target)
Stepped names target shared (Some q) =
    (k : Text) × (slice_get names q ≡ Some k) × (length k < shared → Some q ≡ longest (name_at names) None (components target)) × (shared ≤ length k → Climbs names target shared q)

some_step : (names : List Text) (target : Text) (shared at : ℕ) (c : Climbs names target shared at) (t parts : List Text) → t ≡ c.front ++ c.part ∷ parts → (q m : ℕ) → 0 < m
    → name_at names (take m t) ≡ Some q → ((j : ℕ) → m < j → j ≤ length t - 1 → name_at names (take j t) ≡ None) → Stepped names target shared (Some q)
some_step names target shared at c t parts is q m s here none =
    let front = c.front in
    let part = c.part in
    let long : length t ≡ length front + length (part ∷ parts) = ap (λ (x : List Text). length x) is ∙ length-front front (part ∷ parts) in
    let (k, there, passes) = position_at (λ name. pointwise bytes_eq (components name) (take m t)) names q here in
    let same : components k ≡ take m t = (slice_eq-Decides bytes_eq-Decides (components k) (take m t) (pointwise bytes_eq (components k) (take m t)) refl).0 passes in
    let whole = weight-name k in
    let front_of : (j : ℕ) → j ≤ length front → take j front ≡ take j t = λ j l. take-within front (part ∷ parts) j l ∙ ap (take j) (sym is) in
    let longer : length front < m → (more : List Text) × (components k ≡ front ++ part ∷ more) = λ l. let (more, e) = take-longer front part parts m l in (more, same ∙ (ap (take m) is ∙ e)) in (
      k,
      there,
      (λ (short : length k < shared).
          ⊎_elim (λ (l : length front < m).
          let (more, e) = longer l in
          let w = ap weight e in
          absurd (omega (arith, whole, w, weight-append front (part ∷ more), short, c.to)))
          (λ (l : m ≤ length front).
          found-longest (name_at names) front m q (Some q) s l (sym (ap (name_at names) (front_of m l) ∙ here)) refl
          (longest-skips (name_at names) front m l (λ j a b. ap (name_at names) (front_of j b) ∙ none j a (omega (arith, b, long))))
          ∙ sym c.governs)
          (either (length front) m)),
      (λ (over : shared ≤ length k).
          ⊎_elim (λ (l : length front < m).
          record {
            front = front;
            part = part;
            governs = c.governs;
            from = c.from;
            to = c.to;
            below = λ name at. let k_is : k ≡ name = cc (there, at) in let (more, e) = longer l in (more, sym (ap components k_is) ∙ e);
          })
          (λ (l : m ≤ length front).
          let w = ap weight (same ∙ sym (front_of m l)) in
          let v = ap weight (take-append-drop m front) in
          absurd (omega (arith, whole, w, v, weight-append (take m front) (drop m front), over, c.from)))
          (either (length front) m)),
    )

by_found : (names : List Text) (target : Text) (shared at : ℕ) (c : Climbs names target shared at) (t parts : List Text) → t ≡ c.front ++ c.part ∷ parts → (up : Option ℕ)
    → Found (name_at names) t (length t - 1) up → Stepped names target shared up
by_found names target shared at c t parts is None (nobody z none) = sym (c.governs ∙ none_front names t c.front c.part parts is none)
by_found names target shared at c t parts is (Some q) (nobody z none) = absurd (cc z)
by_found names target shared at c t parts is None (somebody q m z s l here none) = absurd (cc z)
by_found names target shared at c t parts is (Some p) (somebody q m z s l here none) = some_step names target shared at c t parts is p m s (here ∙ sym z) none

-- one step upward
pub stepped : (names : List Text) (above : List (Option ℕ)) (target : Text) (shared at : ℕ) (name : Text) (up : Option ℕ) → AreAbove names above → Climbs names target shared at
    → slice_get names at ≡ Some name → slice_get above at ≡ Some up → Stepped names target shared up
stepped names above target shared at name up all c there told =
    let t = components name in
    let (parts, is) = c.below name there in
    by_found names target shared at c t parts is up (finds (name_at names) t (length t - 1) up (omega arith) (sym (all at name up there told)))

-- the same from the entry at a place
pub step-from : {X : Type 0} (key : X → Text) (entries : List X) (above : List (Option ℕ)) (target : Text) (shared at : ℕ) (link d : Option ℕ) → AreAbove (map key entries) above
    → at < length entries → Climbs (map key entries) target shared at → true ≡ nat_lt at (length above) → link ≡ get_or above at d → Stepped (map key entries) target shared link
step-from {X} key entries above target shared at link d all l c t is =
    let (name, there) = there-is (map key entries) at (omega (arith, l, length-map entries key)) in
    let lt : at < length above = (Decides-ltb at (length above)).0 (sym t) in
    stepped (map key entries) above target shared at name link all c there (slice_get-get_or above at d lt ∙ ap (λ (o : Option ℕ). Some o) (sym is))

-- a step leads to an entry
pub step-within : {X : Type 0} (key : X → Text) (entries : List X) (target : Text) (shared : ℕ) (link : Option ℕ) (up : ℕ) → Stepped (map key entries) target shared link → link ≡ Some up
    → up < length entries
step-within {X} key entries target shared link up s e =
    let (k, there, _, _) = (let s' : Stepped (map key entries) target shared (Some up) = subst (Stepped (map key entries) target shared) e s in s') in
    let l = slice_get_within (map key entries) up k there in
    omega (arith, l, length-map entries key)

-- there are as many lengths as entries
pub as-measured : {X : Type 0} (key : X → Text) (entries : List X) (lengths : List ℕ) → lengths ≡ map (λ name. length name) (map key entries) → length lengths ≡ length entries
as-measured key entries lengths is = ap (λ (ls : List ℕ). length ls) is ∙ (length-map (map key entries) (λ (name : Text). length name) ∙ length-map entries key)

-- whose name has the length that is known
pub step-to : {X : Type 0} (key : X → Text) (entries : List X) (target : Text) (shared : ℕ) (link : Option ℕ) (up other : ℕ) (lengths : List ℕ) → Stepped (map key entries) target shared link
    → link ≡ Some up → lengths ≡ map (λ name. length name) (map key entries)
    → (get_or lengths up other < shared → Some up ≡ longest (name_at (map key entries)) None (components target))
    × (shared ≤ get_or lengths up other → Climbs (map key entries) target shared up)
step-to {X} key entries target shared link up other lengths s e is =
    let (k, there, short, long) = (let s' : Stepped (map key entries) target shared (Some up) = subst (Stepped (map key entries) target shared) e s in s') in
    let same : get_or lengths up other ≡ length k =
    ap (λ (ls : List ℕ). get_or ls up other) is
    ∙ get_or_from_slice_get (map (λ (name : Text). length name) (map key entries)) up (length k) other (mapped-get (λ (name : Text). length name) (map key entries) up k there) in
    ((λ (m : get_or lengths up other < shared). short (omega (arith, m, same))), (λ (m : shared ≤ get_or lengths up other). long (omega (arith, m, same))))
