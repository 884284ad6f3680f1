-- Steps upward from a name to the one that governs a beginning of it.
use Rattle.std.proofs.Common.{◌≡◌, ℕ, ◌<◌, ◌≤◌, ◌+◌, ◌-◌, zero, suc, List, [], ◌∷◌, ◌++◌, Option, Some, None, true, length, map, take, drop, get_or, slice_get, nat_lt, refl, sym, ap, ◌∙◌, subst, arith, ⊎_elim}
use Rattle.std.specs.Option.{option_or}
use Rattle.std.specs.Str.{bytes_eq}
use Rattle.std.specs.Cmp.Lexicographic.{pointwise}
use Rattle.std.proofs.lemmas.Bool.Decides.{Decides-ltb}
use Rattle.std.proofs.lemmas.List.{length-append, length-map, map-append, take-append-drop}
use Rattle.std.proofs.lemmas.Option.{slice_get-get_or, slice_get_within}
use Rattle.std.proofs.lemmas.Slice.Eq.{bytes_eq-Decides, slice_eq-Decides}
use Rattle.log4rs_base.specs.Text.{Text}
use Rattle.log4rs_config.specs.Above.{AreAbove, IsBelow, parents}
use Rattle.log4rs_config.specs.Name.{colon, components}
use Rattle.log4rs_config.specs.Walk.{joined, longest, name_at}
use Rattle.log4rs_config.proofs.Components.{first_part}
use Rattle.log4rs_config.proofs.Halving.{either}
use Rattle.log4rs_config.proofs.Joined.{joined-components}
use Rattle.log4rs_config.proofs.Rising.{there_is}
use Rattle.log4rs_config.proofs.Searches.{walk-more, found-longest}
use Rattle.log4rs_config.proofs.Seeking.{length-front, longest-skips, take-longer}
use Rattle.log4rs_config.proofs.Settled.{position_at}
use Rattle.log4rs_config.proofs.Standings.{weight}
use Rattle.log4rs_config.proofs.Sharing.{there-is}

weight-joined : (part : Text) (parts : List Text) → length (joined (part ∷ parts)) + 2 ≡ weight (part ∷ parts)
weight-joined part [] = omega arith
weight-joined part (q ∷ parts) = let e = weight-joined q parts in omega (arith, e, length-append part (colon ∷ colon ∷ joined (q ∷ parts)))

pub weight-name : (name : Text) → length name + 2 ≡ weight (components name)
weight-name name =
    let (p, ps, e) = first_part name in
    let w = weight-joined p ps in
    let same : joined (p ∷ ps) ≡ name = ap joined (sym e) ∙ joined-components name in
    let long = ap (λ (x : Text). length x) same in
    let whole = ap weight e in
    omega (arith, w, long, whole)

pub weight-append : (xs ys : List Text) → weight (xs ++ ys) ≡ weight xs + weight ys
weight-append [] ys = omega arith
weight-append (x ∷ xs) ys = let e = weight-append xs ys in omega (arith, e)

pub take-within : (xs ys : List Text) (m : ℕ) → m ≤ length xs → take m xs ≡ take m (xs ++ ys)
take-within xs ys zero l = refl
take-within [] ys (suc m) l = absurd (omega (arith, l))
take-within (x ∷ xs) ys (suc m) l = ap (λ (zs : List Text). x ∷ zs) (take-within xs ys m (omega (arith, l)))

-- which of the beginnings of a list of components has the index that is found
pub data Found (at : List Text → Option ℕ) (t : List Text) (n : ℕ) (o : Option ℕ) : Type 0 where
  nobody : o ≡ None → ((m : ℕ) → 0 < m → m ≤ n → at (take m t) ≡ None) → Found at t n o
  somebody : (q m : ℕ) → o ≡ Some q → 0 < m → m ≤ n → at (take m t) ≡ Some q → ((j : ℕ) → m < j → j ≤ n → at (take j t) ≡ None) → Found at t n o

-- one component more, which nobody has
further : (at : List Text → Option ℕ) (t : List Text) (n : ℕ) (o : Option ℕ) → at (take (suc n) t) ≡ None → Found at t n o → Found at t (suc n) o
further at t n o none found = by_case found
  where
    last : (m : ℕ) → m ≤ suc n → (m ≤ n → at (take m t) ≡ None) → at (take m t) ≡ None
    last m l before =
        ⊎_elim (λ (k : m < suc n). before (omega (arith, k)))
        (λ (k : suc n ≤ m). let e : m ≡ suc n = omega (arith, k, l) in ap (λ (i : ℕ). at (take i t)) e ∙ none)
        (either m (suc n))

    by_case : Found at t n o → Found at t (suc n) o
    by_case (nobody z all) = nobody z (λ m s l. last m l (all m s))
    by_case (somebody q m z s l here all) = somebody q m z s (omega (arith, l)) here (λ j k l. last j l (all j k))

one_found : (at : List Text → Option ℕ) (t : List Text) (n : ℕ) (o a : Option ℕ) → at (take (suc n) t) ≡ a → option_or a (longest at None (take n t)) ≡ o
    → (longest at None (take n t) ≡ o → Found at t n o) → Found at t (suc n) o
one_found at t n o None e f k = further at t n o e (k f)
one_found at t n o (Some q) e f k = somebody q (suc n) (sym f) (omega arith) (omega arith) e (λ j l m. absurd (omega (arith, l, m)))

pub finds : (at : List Text → Option ℕ) (t : List Text) (n : ℕ) (o : Option ℕ) → n ≤ length t → longest at None (take n t) ≡ o → Found at t n o
finds at t zero o l e = nobody (sym e) (λ m s k. absurd (omega (arith, s, k)))
finds at t (suc n) o l e =
    let k : suc n ≡ n + 1 = omega arith in
    let more : longest at None (take (suc n) t) ≡ option_or (at (take (suc n) t)) (longest at None (take n t)) =
    ap (λ (i : ℕ). longest at None (take i t)) k ∙ (walk-more option_or at None t n (omega (arith, l)) ∙ ap (λ (i : ℕ). option_or (at (take i t)) (longest at None (take n t))) (sym k)) in
    one_found at t n o (at (take (suc n) t)) refl (sym more ∙ e) (λ (f : longest at None (take n t) ≡ o). finds at t n o (omega (arith, l)) f)

-- what a step upward comes to
abbrev pub Climbed : List Text → Text → Option ℕ → Type 0
Climbed names front None = None ≡ longest (name_at names) None (components front)
Climbed names front (Some q) =
    (k : Text) × (slice_get names q ≡ Some k) × (length k ≤ length front → Some q ≡ longest (name_at names) None (components front)) × (length front < length k → IsBelow k front)

pub none_front : (names : List Text) (t c : List Text) (part : Text) (parts : List Text) → t ≡ c ++ part ∷ parts
    → ((m : ℕ) → 0 < m → m ≤ length t - 1 → name_at names (take m t) ≡ None) → longest (name_at names) None c ≡ None
none_front names t c part parts is none =
    let long : length t ≡ length c + length (part ∷ parts) = ap (λ (x : List Text). length x) is ∙ length-front c (part ∷ parts) in
    longest-skips (name_at names) c 0 (omega arith)
    (λ m l k. ap (name_at names) (take-within c (part ∷ parts) m k ∙ ap (take m) (sym is)) ∙ none m l (omega (arith, k, long)))

some_front : (names : List Text) (front : Text) (t : List Text) (part : Text) (parts : List Text) → t ≡ components front ++ part ∷ parts → (q m : ℕ) → 0 < m
    → name_at names (take m t) ≡ Some q → ((j : ℕ) → m < j → j ≤ length t - 1 → name_at names (take j t) ≡ None) → Climbed names front (Some q)
some_front names front t part parts is q m s here none =
    let c = components front in
    let long : length t ≡ length c + length (part ∷ parts) = ap (λ (x : List Text). length x) is ∙ length-front c (part ∷ parts) in
    let (k, there, passes) = position_at (λ name. pointwise bytes_eq (components name) (take m t)) names q here in
    let same : components k ≡ take m t = (slice_eq-Decides bytes_eq-Decides (components k) (take m t) (pointwise bytes_eq (components k) (take m t)) refl).0 passes in
    let whole = weight-name k in
    let begin = weight-name front in
    let front_of : (j : ℕ) → j ≤ length c → take j c ≡ take j t = λ j l. take-within c (part ∷ parts) j l ∙ ap (take j) (sym is) in
    let longer : length c < m → IsBelow k front = λ l. let (more, e) = take-longer c part parts m l in (part, more, same ∙ (ap (take m) is ∙ e)) in (
      k,
      there,
      (λ (short : length k ≤ length front).
          ⊎_elim (λ (l : length c < m).
          let (p, more, e) = longer l in
          let w = ap weight e in
          absurd (omega (arith, whole, begin, w, weight-append c (p ∷ more), short)))
          (λ (l : m ≤ length c).
          found-longest (name_at names) c m q (Some q) s l (sym (ap (name_at names) (front_of m l) ∙ here)) refl
          (longest-skips (name_at names) c m l (λ j a b. ap (name_at names) (front_of j b) ∙ none j a (omega (arith, b, long)))))
          (either (length c) m)),
      (λ (over : length front < length k).
          ⊎_elim (λ (l : length c < m). longer l)
          (λ (l : m ≤ length c).
          let w = ap weight (same ∙ sym (front_of m l)) in
          let v = ap weight (take-append-drop m c) in
          absurd (omega (arith, whole, begin, w, v, weight-append (take m c) (drop m c), over)))
          (either (length c) m)),
    )

by_found : (names : List Text) (front : Text) (t : List Text) (part : Text) (parts : List Text) → t ≡ components front ++ part ∷ parts → (up : Option ℕ)
    → Found (name_at names) t (length t - 1) up → Climbed names front up
by_found names front t part parts is None (nobody z none) = sym (none_front names t (components front) part parts is none)
by_found names front t part parts is (Some q) (nobody z none) = absurd (cc z)
by_found names front t part parts is None (somebody q m z s l here none) = absurd (cc z)
by_found names front t part parts is (Some p) (somebody q m z s l here none) = some_front names front t part parts is p m s (here ∙ sym z) none

-- one step upward from a name that is below a beginning
pub climbed : (names : List Text) (above : List (Option ℕ)) (at : ℕ) (name front : Text) (up : Option ℕ) → AreAbove names above → slice_get names at ≡ Some name → IsBelow name front
    → slice_get above at ≡ Some up → Climbed names front up
climbed names above at name front up all there (part, parts, is) told =
    let t = components name in
    by_found names front t part parts is up (finds (name_at names) t (length t - 1) up (omega arith) (sym (all at name up there told)))

-- the same of the entry at a place
pub step-up : {X : Type 0} (key : X → Text) (entries : List X) (above : List (Option ℕ)) (at : ℕ) (front : Text) (link d : Option ℕ) → AreAbove (map key entries) above
    → at < length entries → ((name : Text) → slice_get (map key entries) at ≡ Some name → IsBelow name front) → true ≡ nat_lt at (length above) → link ≡ get_or above at d
    → Climbed (map key entries) front link
step-up {X} key entries above at front link d all l below t is =
    let (name, there) = there-is (map key entries) at (omega (arith, l, length-map entries key)) in
    let lt : at < length above = (Decides-ltb at (length above)).0 (sym t) in
    climbed (map key entries) above at name front link all there (below name there) (slice_get-get_or above at d lt ∙ ap (λ (o : Option ℕ). Some o) (sym is))

pub climbed-within : {X : Type 0} (key : X → Text) (entries : List X) (front : Text) (link : Option ℕ) (q : ℕ) → Climbed (map key entries) front link → link ≡ Some q → q < length entries
climbed-within {X} key entries front link q s e =
    let (k, there, _, _) = (let s' : Climbed (map key entries) front (Some q) = subst (Climbed (map key entries) front) e s in s') in
    let l = slice_get_within (map key entries) q k there in
    omega (arith, l, length-map entries key)

mapped-front : {X Y : Type 0} (f : X → Y) (key : X → Text) (h : Text → Y) → ((x : X) → f x ≡ h (key x)) → (n : ℕ) (xs : List X) (i : ℕ) (name : Text) (y : Y)
    → slice_get (map key xs) i ≡ Some name → slice_get (map f (take n xs)) i ≡ Some y → y ≡ h name
mapped-front f key h e zero xs i name y at told = absurd (cc told)
mapped-front f key h e (suc n) [] i name y at told = absurd (cc at)
mapped-front f key h e (suc n) (x ∷ xs) zero name y at told = let n : key x ≡ name = cc at in let m : f x ≡ y = cc told in sym m ∙ (e x ∙ ap h n)
mapped-front f key h e (suc n) (x ∷ xs) (suc i) name y at told = mapped-front f key h e n xs i name y at told

-- what was found for the first entries
pub are-above : {X : Type 0} (key : X → Text) (entries : List X) (above : List (Option ℕ)) (n : ℕ)
    → above ≡ map (λ e. longest (name_at (map key entries)) None (parents (components (key e)))) (take n entries) → AreAbove (map key entries) above
are-above {X} key entries above n is = λ j name up at told.
    let f : X → Option ℕ = λ e. longest (name_at (map key entries)) None (parents (components (key e))) in
    mapped-front f key (λ (name : Text). longest (name_at (map key entries)) None (parents (components name))) (λ x. refl) n entries j name up at
    (sym (ap (λ (xs : List (Option ℕ)). slice_get xs j) is) ∙ told)

pub mapped-get : {X Y : Type 0} (f : X → Y) (xs : List X) (i : ℕ) (x : X) → slice_get xs i ≡ Some x → slice_get (map f xs) i ≡ Some (f x)
mapped-get f [] i x e = absurd (cc e)
mapped-get f (y ∷ ys) zero x e = ap (λ (z : _). Some (f z)) (let s : y ≡ x = cc e in s)
mapped-get f (y ∷ ys) (suc i) x e = mapped-get f ys i x e

take-one : {X : Type 0} (n : ℕ) (xs : List X) (x : X) → slice_get xs n ≡ Some x → take (suc n) xs ≡ take n xs ++ x ∷ []
take-one n [] x e = absurd (cc e)
take-one zero (y ∷ ys) x e = ap (λ (z : _). z ∷ []) (let s : y ≡ x = cc e in s)
take-one (suc n) (y ∷ ys) x e = ap (λ (zs : List _). y ∷ zs) (take-one n ys x e)

-- one more of what is mapped alike
pub one-mapped : {X Y Z : Type 0} (f : X → Z) (g : Y → Z) (xs new : List X) (ys : List Y) (x : X) (y : Y) (i k : ℕ) → new ≡ xs ++ x ∷ [] → slice_get ys i ≡ Some y → k ≡ suc i
    → map f xs ≡ map g (take i ys) → f x ≡ g y → map f new ≡ map g (take k ys)
one-mapped {X} {Y} {Z} f g xs new ys x y i k e at n is one =
    ap (map f) e ∙ (map-append f xs (x ∷ []) ∙ (ap (λ (zs : List Z). zs ++ f x ∷ []) is ∙ (ap (λ (z : Z). map g (take i ys) ++ z ∷ []) one
    ∙ (sym (map-append g (take i ys) (y ∷ [])) ∙ (ap (map g) (sym (take-one i ys y at)) ∙ ap (λ (m : ℕ). map g (take m ys)) (sym n))))))

-- what was found for one entry more
pub one-above : {X : Type 0} (key : X → Text) (entries : List X) (above new : List (Option ℕ)) (up : Option ℕ) → length above < length entries
    → above ≡ map (λ e. longest (name_at (map key entries)) None (parents (components (key e)))) (take (length above) entries) → new ≡ above ++ up ∷ []
    → ((name : Text) → slice_get (map key entries) (length above) ≡ Some name → up ≡ longest (name_at (map key entries)) None (parents (components name)))
    → (length new ≤ length entries) × (new ≡ map (λ e. longest (name_at (map key entries)) None (parents (components (key e)))) (take (length new) entries))
one-above {X} key entries above new up l is e found =
    let f : X → Option ℕ = λ e. longest (name_at (map key entries)) None (parents (components (key e))) in
    let n = length above in
    let (x, at) = there_is entries n l in
    let here = found (key x) (mapped-get key entries n x at) in
    let long : length new ≡ suc n = omega (arith, ap (λ (zs : List (Option ℕ)). length zs) e, length-append above (up ∷ [])) in (
      omega (arith, long, l),
      e ∙ (ap (λ (z : Option ℕ). above ++ z ∷ []) here ∙ (ap (λ (zs : List (Option ℕ)). zs ++ f x ∷ []) is
          ∙ (sym (map-append f (take n entries) (x ∷ [])) ∙ (ap (map f) (sym (take-one n entries x at)) ∙ ap (λ (m : ℕ). map f (take m entries)) (sym long))))),
    )
