-- The components of a name, byte by byte.
use Rattle.std.proofs.Common.{◌≡◌, ℕ, ◌<◌, ◌+◌, true, false, ◌&&◌, ◌==◌, List, [], ◌∷◌, ◌++◌, take, drop, length, get_or, refl, sym, ap, ◌∙◌, arith, append_assoc, cond, add-one, drop-cons, get_or-drop, length-drop, ◌-◌}
use Rattle.std.proofs.lemmas.List.{take_more, append-nil, take_all}
use Rattle.log4rs_base.specs.Text.{Text}
use Rattle.log4rs_config.specs.Name.{colon, in_front, components}

-- bytes in front of the first part
abbrev pub all_in_front : Text → List Text → List Text
all_in_front bs [] = bs ∷ []
all_in_front bs (part ∷ parts) = (bs ++ part) ∷ parts

-- one byte more in front
pub all_in_front-push : (bs : Text) (b : ℕ) (parts : List Text) → all_in_front bs (in_front b parts) ≡ all_in_front (bs ++ b ∷ []) parts
all_in_front-push bs b [] = refl
all_in_front-push bs b (part ∷ parts) = ap (λ (x : Text). x ∷ parts) (sym (append_assoc bs (b ∷ []) part))

-- a byte that begins no separator
components-byte : (b : ℕ) (rest : Text) → ((b == colon) && (get_or rest 0 0 == colon)) ≡ false → components (b ∷ rest) ≡ in_front b (components rest)
components-byte b [] e = refl
components-byte b (c ∷ rest) e = rw e refl

-- a separator
components-separator : (b c : ℕ) (rest : Text) → ((b == colon) && (c == colon)) ≡ true → components (b ∷ c ∷ rest) ≡ [] ∷ components rest
components-separator b c rest e = rw e refl

nothing_in_front : (b : ℕ) (parts : List Text) → all_in_front [] (in_front b parts) ≡ in_front b parts
nothing_in_front b [] = refl
nothing_in_front b (part ∷ parts) = refl

-- there is always a first part
pub components-first : (name : Text) → components name ≡ all_in_front [] (components name)
components-first [] = refl
components-first (a ∷ []) = refl
components-first (a ∷ b ∷ rest) =
    elim ((a == colon) && (b == colon)) as (λ t. cond t ([] ∷ components rest) (in_front a (components (b ∷ rest))) ≡ all_in_front [] (cond t ([] ∷ components rest) (in_front a (components (b ∷ rest)))))
    [ true ↦ refl | false ↦ sym (nothing_in_front a (components (b ∷ rest))) ]

pub drop_first : (s : Text) (i : ℕ) → i < length s → drop i s ≡ get_or s i 0 ∷ drop (i + 1) s
drop_first s i h = rw add-one (drop-cons s i 0 h)

pub first_of_drop : (s : Text) (i : ℕ) → get_or (drop i s) 0 0 ≡ get_or s i 0
first_of_drop s i = get_or-drop i s 0 0 ∙ ap (λ (k : ℕ). get_or s k 0) (let k : i + 0 ≡ i = omega arith in k)

-- one byte further, past no separator
pub components-step : (name : Text) (i : ℕ) → i < length name → ((get_or name i 0 == colon) && (get_or name (i + 1) 0 == colon)) ≡ false
    → components name ≡ all_in_front (take i name) (components (drop i name))
    → components name ≡ all_in_front (take (i + 1) name) (components (drop (i + 1) name))
components-step name i h e p =
    let here : drop i name ≡ get_or name i 0 ∷ drop (i + 1) name = drop_first name i h in
    let next : get_or (drop (i + 1) name) 0 0 ≡ get_or name (i + 1) 0 = first_of_drop name (i + 1) in
    let e' : ((get_or name i 0 == colon) && (get_or (drop (i + 1) name) 0 0 == colon)) ≡ false = rw next e in
    p ∙ (ap (λ (x : Text). all_in_front (take i name) (components x)) here
    ∙ (ap (all_in_front (take i name)) (components-byte (get_or name i 0) (drop (i + 1) name) e')
    ∙ (all_in_front-push (take i name) (get_or name i 0) (components (drop (i + 1) name))
    ∙ ap (λ (x : Text). all_in_front x (components (drop (i + 1) name))) (sym (take_more name i 0 h)))))

-- at a separator
pub components-cut : (name : Text) (i : ℕ) → i < length name → i + 1 < length name → ((get_or name i 0 == colon) && (get_or name (i + 1) 0 == colon)) ≡ true
    → components name ≡ all_in_front (take i name) (components (drop i name))
    → components name ≡ take i name ∷ components (drop (i + 2) name)
components-cut name i h w e p =
    let here : drop i name ≡ get_or name i 0 ∷ get_or name (i + 1) 0 ∷ drop (i + 2) name =
    drop_first name i h ∙ ap (λ (x : Text). get_or name i 0 ∷ x) (drop_first name (i + 1) w ∙ ap (λ (k : ℕ). get_or name (i + 1) 0 ∷ drop k name) (let k : i + 1 + 1 ≡ i + 2 = omega arith in k)) in
    p ∙ (ap (λ (x : Text). all_in_front (take i name) (components x)) here
    ∙ (ap (all_in_front (take i name)) (components-separator (get_or name i 0) (get_or name (i + 1) 0) (drop (i + 2) name) e)
    ∙ ap (λ (x : Text). x ∷ components (drop (i + 2) name)) (append-nil (take i name))))

-- a slice up to the end
pub slice_to_end : (name : Text) (i : ℕ) → take (length name - i) (drop i name) ≡ drop i name
slice_to_end name i = take_all (length name - i) (drop i name) (omega (arith, length-drop i name))

first_of : (parts : List Text) → parts ≡ all_in_front [] parts → (part : Text) × (more : List Text) × (parts ≡ part ∷ more)
first_of [] e = ([], [], e)
first_of (part ∷ more) e = (part, more, refl)

-- the components of a name begin with one
pub first_part : (name : Text) → (part : Text) × (parts : List Text) × (components name ≡ part ∷ parts)
first_part name = first_of (components name) (components-first name)

-- there is one at least
pub one-left : (name : Text) → 0 < length (components name)
one-left name =
    let f = first_part name in
    let all = ap (λ (x : List Text). length x) f.2 in
    omega (arith, all)
