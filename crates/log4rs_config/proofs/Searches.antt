-- The plain list of names, searched component by component.
use Rattle.std.proofs.Common.{◌≡◌, ℕ, ◌+◌, ◌-◌, ◌<◌, ◌≤◌, zero, suc, Bool, true, false, cond, not, ◌&&◌, MatchOption, List, [], ◌∷◌, ◌++◌, Option, Some, None, position, map, take, drop, length, get_or, refl, sym, ap, ◌∙◌, arith}
use Rattle.std.specs.Option.{is_some, option_or, option_map_or}
use Rattle.std.specs.Str.{bytes_eq}
use Rattle.std.specs.Cmp.Lexicographic.{pointwise}
use Rattle.std.proofs.lemmas.List.{drop_more, take_more}
use Rattle.std.proofs.lemmas.Bool.{not-true, not-false}
use Rattle.log4rs_base.specs.Text.{Text}
use Rattle.log4rs_config.specs.Name.{components}
use Rattle.log4rs_config.specs.Settings.{LoggerSetting}
use Rattle.log4rs_config.specs.Walk.{name_at}
use Rattle.log4rs_config.specs.Walk.{walk, longest, index_of}
use Rattle.log4rs_config.proofs.Components.{first_part}
use Rattle.log4rs_config.proofs.Walks.{first_of}

-- a place in what is left
abbrev pub further : ℕ → Option ℕ → Option ℕ
further i o = option_map_or (λ k. Some (i + k)) o None

one_further : (i : ℕ) (b : Bool) (o : Option ℕ) → further i (cond b (Some 0) (option_map_or (λ k. Some (suc k)) o None)) ≡ cond b (Some i) (further (i + 1) o)
one_further i true o = ap (λ (k : ℕ). Some k) (omega arith)
one_further i false None = refl
one_further i false (Some k) = ap (λ (n : ℕ). Some n) (omega arith)

-- one name further
pub name-next : (names : List Text) (parts : List Text) (i : ℕ) (name : Text) (b : Bool) (whole : Option ℕ) → i < length names → name ≡ get_or names i name
    → pointwise bytes_eq (components name) parts ≡ b → whole ≡ further i (name_at (drop i names) parts)
    → whole ≡ cond b (Some i) (further (i + 1) (name_at (drop (i + 1) names) parts))
name-next names parts i name b whole h e is w =
    let p = λ (n : Text). pointwise bytes_eq (components n) parts in
    w ∙ (ap (λ (ns : List Text). further i (position p ns)) (drop_more names i name h ∙ ap (λ (n : Text). n ∷ drop (i + 1) names) (sym e))
    ∙ (ap (further i) (first_of p name (drop (i + 1) names))
    ∙ (one_further i (p name) (position p (drop (i + 1) names))
    ∙ ap (λ (t : Bool). cond t (Some i) (further (i + 1) (position p (drop (i + 1) names)))) is)))

position-map : {X Y : Type 0} (f : X → Y) (p : Y → Bool) (xs : List X) → position p (map f xs) ≡ position (λ x. p (f x)) xs
position-map f p [] = refl
position-map {X} f p (x ∷ xs) =
    first_of p (f x) (map f xs)
    ∙ (ap (λ (o : Option ℕ). cond (p (f x)) (Some 0) (option_map_or (λ (k : ℕ). Some (suc k)) o None)) (position-map f p xs)
    ∙ sym (first_of (λ (y : X). p (f y)) x xs))

-- the names of loggers are at the loggers' places
pub name-place : (names : List Text) (loggers : List LoggerSetting) → names ≡ map (λ l. l.name) loggers → (parts : List Text) → name_at names parts ≡ index_of loggers parts
name-place names loggers e parts =
    ap (λ (ns : List Text). name_at ns parts) e ∙ position-map (λ (l : LoggerSetting). l.name) (λ (n : Text). pointwise bytes_eq (components n) parts) loggers

walk-push : {A : Type 0} (step : Option ℕ → A → A) (at : List Text → Option ℕ) (value : A) (parts : List Text) (part : Text)
    → walk step at value (parts ++ part ∷ []) ≡ step (at (parts ++ part ∷ [])) (walk step at value parts)
walk-push step at value [] part = refl
walk-push step at value (q ∷ qs) part = walk-push step (λ more. at (q ∷ more)) (step (at (q ∷ [])) value) qs part

-- a walk, one component further
pub walk-more : {A : Type 0} (step : Option ℕ → A → A) (at : List Text → Option ℕ) (value : A) (parts : List Text) (i : ℕ) → i < length parts
    → walk step at value (take (i + 1) parts) ≡ step (at (take (i + 1) parts)) (walk step at value (take i parts))
walk-more {A} step at value parts i h =
    let more : take (i + 1) parts ≡ take i parts ++ get_or parts i [] ∷ [] = take_more parts i [] h in
    ap (walk step at value) more
    ∙ (walk-push step at value (take i parts) (get_or parts i [])
    ∙ ap (λ (x : List Text). step (at x) (walk step at value (take i parts))) (sym more))

-- the first components first
step_by : (part first : Text) (parts more name target : List Text) (n : ℕ) → 0 < n → name ≡ part ∷ parts → target ≡ first ∷ more
    → pointwise bytes_eq name (take n target) ≡ (bytes_eq part first && pointwise bytes_eq parts (take (n - 1) more))
step_by part first parts more name target zero h e f = absurd (omega arith)
step_by part first parts more name target (suc m) h e f =
    let less : m ≡ suc m - 1 = omega arith in
    rw (e, f) (ap (λ (k : ℕ). bytes_eq part first && pointwise bytes_eq parts (take k more)) less)

pub step-same : (part first : Text) (parts more name target : List Text) (n : ℕ) (r : Bool) → 0 < n → name ≡ part ∷ parts → target ≡ first ∷ more
    → r ≡ not (bytes_eq part first) → r ≡ false → pointwise bytes_eq name (take n target) ≡ pointwise bytes_eq parts (take (n - 1) more)
step-same part first parts more name target n r h e f is t =
    let same : bytes_eq part first ≡ true = not-false (bytes_eq part first) (sym is ∙ t) in
    step_by part first parts more name target n h e f ∙ ap (λ (b : Bool). b && pointwise bytes_eq parts (take (n - 1) more)) same

take-nil : (n : ℕ) (parts : List Text) → parts ≡ [] → take n parts ≡ []
take-nil zero parts e = refl
take-nil (suc n) parts e = rw e refl

-- a name of one component, and a target of one or more
pub one-left : {B : Type 0} (o : Option B) (rest : B → Text) (part first : Text) (name target : List Text) (n : ℕ) (r ends : Bool) → 1 < n → name ≡ part ∷ []
    → MatchOption o (target ≡ first ∷ []) (λ x. target ≡ first ∷ components (rest x))
    → r ≡ not (bytes_eq part first) → r ≡ false → is_some o ≡ not ends → ends ≡ pointwise bytes_eq name (take n target)
one-left None rest part first name target n r ends h e f is t says =
    not-false ends (sym says)
    ∙ sym (step-same part first [] [] name target n r (omega arith) e f is t ∙ ap (pointwise bytes_eq []) (take-nil (n - 1) [] refl))
one-left (Some x) rest part first name target n r ends h e f is t says =
    let (p, ps, whole) = first_part (rest x) in
    let k : n - 1 ≡ suc (n - 2) = omega arith in
    not-true ends (sym says)
    ∙ sym (step-same part first [] (components (rest x)) name target n r (omega arith) e f is t ∙ rw (whole, k) refl)

-- where the name is found that governs
pub found-longest : (at : List Text → Option ℕ) (parts : List Text) (n place : ℕ) (o : Option ℕ) → 0 < n → n ≤ length parts
    → o ≡ at (take n parts) → o ≡ Some place → longest at None parts ≡ longest at None (take n parts) → Some place ≡ longest at None parts
found-longest at parts n place o h l e f s =
    let less : n ≡ n - 1 + 1 = omega arith in
    let here : at (take n parts) ≡ Some place = sym e ∙ f in
    sym (s ∙ (ap (λ (k : ℕ). longest at None (take k parts)) less
    ∙ (walk-more option_or at None parts (n - 1) (omega arith)
    ∙ ap (λ (x : Option ℕ). option_or x (longest at None (take (n - 1) parts))) (ap (λ (k : ℕ). at (take k parts)) (sym less) ∙ here))))

-- where no name is found, fewer components decide
pub fewer-longest : (at : List Text → Option ℕ) (parts : List Text) (n : ℕ) (o : Option ℕ) → 0 < n → n ≤ length parts
    → o ≡ at (take n parts) → o ≡ None → longest at None parts ≡ longest at None (take n parts) → longest at None parts ≡ longest at None (take (n - 1) parts)
fewer-longest at parts n o h l e f s =
    let less : n ≡ n - 1 + 1 = omega arith in
    let here : at (take n parts) ≡ None = sym e ∙ f in
    s ∙ (ap (λ (k : ℕ). longest at None (take k parts)) less
    ∙ (walk-more option_or at None parts (n - 1) (omega arith)
    ∙ ap (λ (x : Option ℕ). option_or x (longest at None (take (n - 1) parts))) (ap (λ (k : ℕ). at (take k parts)) (sym less) ∙ here)))
