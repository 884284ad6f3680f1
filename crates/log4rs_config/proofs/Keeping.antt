-- What is kept of given lists.
use Rattle.std.proofs.Common.{◌≡◌, ℕ, suc, ◌<◌, ◌≤◌, ◌+◌, add-one, Bool, true, false, cond, not, ◌||◌, List, [], ◌∷◌, ◌++◌, map, filter, take, drop, drop-cons, length, get_or, string_bytes, refl, sym, ap, subst, ◌∙◌, arith}
use Rattle.std.specs.Str.{bytes_eq}
use Rattle.std.proofs.lemmas.List.{take_more, take_all, drop_all, append-nil, map-append, drop-set-lt}
use Rattle.std.proofs.lemmas.Slice.Eq.{bytes_eq-Decides}
use Rattle.std.proofs.Math.Seq.{take-suc-set}
use Rattle.std.proofs.Math.ListN.{set}
use Rattle.log4rs_base.specs.Text.{Text}
use Rattle.log4rs_config.specs.declared.runtime.appender.Filtered.{Filtered}
use Rattle.log4rs_config.specs.Lossy.{are_first, firsts, kept, kept_with}
use Rattle.log4rs_config.specs.Settings.{Settings, RootSetting, LoggerSetting, IsAccepted, settings_of, is_among}
use Rattle.log4rs_config.proofs.Accepting.{accepted_kept}
use Rattle.log4rs_config.proofs.Seen.{next_names, or-swap, or-false}

first-more : (earlier names : List Text) (n : Text) → are_first earlier (names ++ n ∷ []) ≡ are_first earlier names ++ not (is_among earlier n || is_among names n) ∷ []
first-more earlier [] n = ap (λ (b : Bool). not b ∷ []) (sym (or-false (is_among earlier n)))
first-more earlier (m ∷ names) n =
    ap (λ (l : List Bool). not (is_among earlier m) ∷ l) (first-more (m ∷ earlier) names n
    ∙ ap (λ (b : Bool). are_first (m ∷ earlier) names ++ not b ∷ []) (or-swap (bytes_eq n m) (is_among earlier n) (is_among names n)))

-- the marks of the items so far, and one more
pub marks-more : {X : Type 0} (name : X → Text) (xs : List X) (i : ℕ) (x : X) (old new : List Bool) (mark : Bool) → i < length xs → x ≡ get_or xs i x
    → old ≡ are_first [] (map name (take i xs)) → mark ≡ not (is_among (map name (take i xs)) (name x)) → new ≡ old ++ mark ∷ []
    → new ≡ are_first [] (map name (take (i + 1) xs))
marks-more {X} name xs i x old new mark h e o m n =
    n ∙ ap (λ (l : List Bool). l ++ mark ∷ []) o
    ∙ ap (λ (b : Bool). are_first [] (map name (take i xs)) ++ b ∷ []) m
    ∙ sym (first-more [] (map name (take i xs)) (name x))
    ∙ ap (are_first []) (sym (next_names name xs i x h e))

-- a test of an item's image
pub filter-map : {X Y : Type 0} (f : X → Y) (p : Y → Bool) (xs : List X) → map f (filter (λ x. p (f x)) xs) ≡ filter p (map f xs)
filter-map {X} {Y} f p [] = refl
filter-map {X} {Y} f p (x ∷ xs) =
    elim (p (f x)) as (λ b. map f (cond b (x ∷ filter (λ x. p (f x)) xs) (filter (λ x. p (f x)) xs)) ≡ cond b (f x ∷ filter p (map f xs)) (filter p (map f xs)))
    [ true ↦ ap (λ (l : List Y). f x ∷ l) (filter-map f p xs) | false ↦ filter-map f p xs ]

-- the items with a mark
abbrev pub marked : {X : Type 0} → List X → List Bool → List X
marked [] marks = []
marked (x ∷ xs) [] = []
marked (x ∷ xs) (mark ∷ marks) = cond mark (x ∷ marked xs marks) (marked xs marks)

marked_step : {X : Type 0} (name : X → Text) (earlier seen : List Text) (x : X) (xs : List X) (b c : Bool) → b ≡ c → is_among earlier (name x) ≡ c
    → marked xs (are_first (name x ∷ earlier) (map name xs)) ≡ firsts name (name x ∷ seen) xs
    → (c ≡ true → marked xs (are_first (name x ∷ earlier) (map name xs)) ≡ firsts name seen xs)
    → cond (not b) (x ∷ marked xs (are_first (name x ∷ earlier) (map name xs))) (marked xs (are_first (name x ∷ earlier) (map name xs))) ≡ cond c (firsts name seen xs) (x ∷ firsts name (name x ∷ seen) xs)
marked_step name earlier seen x xs true true p e new old = old refl
marked_step name earlier seen x xs true false p e new old = cc
marked_step name earlier seen x xs false true p e new old = cc
marked_step {X} name earlier seen x xs false false p e new old = ap (λ (l : List X). x ∷ l) new

again : (earlier : List Text) (m n : Text) (t : Bool) → bytes_eq n m ≡ t → is_among earlier m ≡ true → (t || is_among earlier n) ≡ is_among earlier n
again earlier m n true e h = sym (ap (is_among earlier) ((bytes_eq-Decides n m).0 e) ∙ h)
again earlier m n false e h = refl

-- the items with a mark are the first of each name
pub marked_firsts : {X : Type 0} (name : X → Text) (earlier seen : List Text) (xs : List X) → ((n : Text) → is_among earlier n ≡ is_among seen n)
    → marked xs (are_first earlier (map name xs)) ≡ firsts name seen xs
marked_firsts name earlier seen [] h = refl
marked_firsts name earlier seen (x ∷ xs) h =
    marked_step name earlier seen x xs (is_among earlier (name x)) (is_among seen (name x)) (h (name x)) (h (name x))
    (marked_firsts name (name x ∷ earlier) (name x ∷ seen) xs (λ n. ap (λ (b : Bool). bytes_eq n (name x) || b) (h n)))
    (λ t. marked_firsts name (name x ∷ earlier) seen xs (λ n. again earlier (name x) n (bytes_eq n (name x)) refl (h (name x) ∙ t) ∙ h n))

-- one item after another is changed
head_or : {X : Type 0} → X → List X → X
head_or d [] = d
head_or d (x ∷ xs) = x

tail_of : {X : Type 0} → List X → List X
tail_of [] = []
tail_of (x ∷ xs) = xs

pub changed-more : {X : Type 0} (f : X → X) (xs ys : List X) (i : ℕ) (x y : X) → i < length xs → i < length ys → x ≡ get_or ys i x → y ≡ f x
    → (take i ys ≡ map f (take i xs)) × (drop i ys ≡ drop i xs)
    → (take (i + 1) (set ys i y) ≡ map f (take (i + 1) xs)) × (drop (i + 1) (set ys i y) ≡ drop (i + 1) xs)
unfolding head_or tail_of
changed-more {X} f xs ys i x y h k e is (before, after) =
    let left : get_or ys i x ∷ drop (i + 1) ys ≡ get_or xs i x ∷ drop (i + 1) xs = sym (rw add-one (drop-cons ys i x k)) ∙ after ∙ rw add-one (drop-cons xs i x h) in
    let here : x ≡ get_or xs i x = e ∙ ap (head_or x) left in
    let beyond : i < i + 1 = omega arith in (
      rw add-one (take-suc-set ys i y k) ∙ ap (λ (l : List X). l ++ y ∷ []) before ∙ ap (λ (z : X). map f (take i xs) ++ z ∷ []) (is ∙ ap f here)
          ∙ sym (ap (map f) (take_more xs i x h) ∙ map-append f (take i xs) (get_or xs i x ∷ [])),
      drop-set-lt (i + 1) ys i y beyond ∙ ap tail_of left,
    )

-- all items are changed
pub changed-all : {X : Type 0} (f : X → X) (xs ys : List X) (i : ℕ) → length xs ≤ i → length ys ≡ length xs → take i ys ≡ map f (take i xs) → ys ≡ map f xs
changed-all {X} f xs ys i h k e =
    let l : length ys ≤ i = omega (arith, k, h) in
    sym (take_all i ys l) ∙ e ∙ ap (map f) (take_all i xs h)

-- a vector whose elements were all lent holds what they became
pub written_back : {X : Type 0} (xs ys : List X) (n : ℕ) → length ys ≡ length xs → n ≡ length xs → take n (ys ++ drop (length ys) xs) ≡ ys
written_back {X} xs ys n same size =
    let short : length xs ≤ length ys = omega (arith, same) in
    let all : length ys ≤ n = omega (arith, same, size) in
    ap (λ (rest : List X). take n (ys ++ rest)) (drop_all (length ys) xs short) ∙ ap (take n) (append-nil ys) ∙ take_all n ys all

-- one mark for each item
pub as_many : {X : Type 0} (name : X → Text) (earlier : List Text) (xs : List X) → length xs ≡ length (are_first earlier (map name xs))
as_many name earlier [] = refl
as_many name earlier (x ∷ xs) = ap (λ (n : ℕ). suc n) (as_many name (name x ∷ earlier) xs)

-- names are kept with their items
map-firsts : {X : Type 0} (name : X → Text) (earlier : List Text) (xs : List X) → firsts (λ (t : Text). t) earlier (map name xs) ≡ map name (firsts name earlier xs)
map-firsts {X} name earlier [] = refl
map-firsts {X} name earlier (x ∷ xs) =
    elim (is_among earlier (name x)) as (λ b. cond b (firsts (λ (t : Text). t) earlier (map name xs)) (name x ∷ firsts (λ (t : Text). t) (name x ∷ earlier) (map name xs))
    ≡ map name (cond b (firsts name earlier xs) (x ∷ firsts name (name x ∷ earlier) xs)))
    [ true ↦ map-firsts name earlier xs | false ↦ ap (λ (r : List Text). name x ∷ r) (map-firsts name (name x ∷ earlier) xs) ]

-- the first appender of each name, and what is kept with these
pub kept_settings : {A F : Type 0} (given news seen : List (Filtered A F)) (root left : RootSetting) (loggers others : List LoggerSetting)
    → news ≡ firsts (λ a. string_bytes a.name) [] given → seen ≡ news
    → settings_of (map (λ a. string_bytes a.name) seen) left others ≡ kept_with (map (λ a. string_bytes a.name) seen) root loggers
    → settings_of (map (λ a. string_bytes a.name) news) left others ≡ kept (settings_of (map (λ a. string_bytes a.name) given) root loggers)
kept_settings {A} {F} given news seen root left loggers others first lent e =
    let name = λ (a : Filtered A F). string_bytes a.name in
    let names = λ (l : List (Filtered A F)). map name l in
    ap (λ (l : List (Filtered A F)). settings_of (names l) left others) (sym lent) ∙ e
    ∙ ap (λ (l : List (Filtered A F)). kept_with (names l) root loggers) (lent ∙ first)
    ∙ ap (λ (l : List Text). kept_with l root loggers) (sym (map-firsts name [] given))

-- and it is accepted
pub kept_accepted : {A F : Type 0} (given news seen : List (Filtered A F)) (root left : RootSetting) (loggers others : List LoggerSetting)
    → news ≡ firsts (λ a. string_bytes a.name) [] given → seen ≡ news
    → settings_of (map (λ a. string_bytes a.name) seen) left others ≡ kept_with (map (λ a. string_bytes a.name) seen) root loggers
    → IsAccepted (settings_of (map (λ a. string_bytes a.name) news) left others)
kept_accepted {A} {F} given news seen root left loggers others first lent e =
    subst (λ (s : Settings). IsAccepted s) (sym (kept_settings given news seen root left loggers others first lent e))
    (accepted_kept (settings_of (map (λ (a : Filtered A F). string_bytes a.name) given) root loggers))
