-- Loggers in the order of their components, each with its place.
use Rattle.std.proofs.Common.{◌≡◌, ℕ, ◌<◌, ◌≤◌, ◌+◌, ◌-◌, zero, suc, Bool, true, false, List, [], ◌∷◌, ◌++◌, Some, Contains, All, length, map, take, get_or, slice_get, refl, sym, ap, ◌∙◌, subst, arith}
use Rattle.std.specs.Option.{option_map_or}
use Rattle.std.specs.Ordering.{is_lt}
use Rattle.std.specs.List.Sorted.{IsPermutation, IsSortedByKey}
use Rattle.std.proofs.lemmas.List.{take_more, map-append}
use Rattle.std.proofs.lemmas.List.Elements.{All-push, All-contains}
use Rattle.std.proofs.lemmas.List.Sorted.{All-permutation, IsPermutation-map}
use Rattle.log4rs_base.specs.Text.{Text}
use Rattle.log4rs_config.specs.Name.{components}
use Rattle.log4rs_config.specs.Settings.{LoggerSetting}
use Rattle.log4rs_config.specs.Laws.{HaveDistinctNames}
use Rattle.log4rs_config.specs.Order.{parts_cmp, Rise}
use Rattle.log4rs_config.proofs.Rising.{rise-push, next-behind, sorted-rises, length-same}

-- one logger more, with its place
pub place-pushed : {X : Type 0} (logger : X → LoggerSetting) (place : X → ℕ) (loggers : List LoggerSetting) (all new : List X) (one : X) (i : ℕ) → i < length loggers
    → logger one ≡ get_or loggers i (logger one) → place one ≡ i → new ≡ all ++ one ∷ []
    → (map logger all ≡ take i loggers) × All (λ n. slice_get loggers (place n) ≡ Some (logger n)) all
    → (map logger new ≡ take (i + 1) loggers) × All (λ n. slice_get loggers (place n) ≡ Some (logger n)) new
place-pushed {X} logger place loggers all new one i l is at e (whole, each) = (
  ap (map logger) e ∙ (map-append logger all (one ∷ []) ∙ (ap (λ (xs : List LoggerSetting). xs ++ logger one ∷ []) whole
      ∙ (ap (λ (x : LoggerSetting). take i loggers ++ x ∷ []) is ∙ sym (take_more loggers i (logger one) l)))),
  subst (λ (xs : List X). All (λ n. slice_get loggers (place n) ≡ Some (logger n)) xs) (sym e)
      (All-push (λ n. slice_get loggers (place n) ≡ Some (logger n)) all one each (ap (slice_get loggers) at ∙ there loggers i (logger one) l is)),
)
  where
    there : {Y : Type 0} (xs : List Y) (i : ℕ) (x : Y) → i < length xs → x ≡ get_or xs i x → slice_get xs i ≡ Some x
    there [] i x lt e = absurd (omega (arith, lt))
    there (y ∷ ys) zero x lt e = ap (λ z. Some z) (sym e)
    there (y ∷ ys) (suc i) x lt e = there ys i x (omega (arith, lt)) e

-- those that are kept so far
abbrev pub AreKept : {X : Type 0} → (X → List Text) → List X → List X → ℕ → Type 0
AreKept key sorted kept i =
    Rise (map key kept) × (Rise (map key sorted) → kept ≡ take i sorted) × All (λ n. Contains sorted n) kept × (length kept ≤ i)

pub get-mapped : {X Y Z : Type 0} (f : X → Y) (g : Y → Z) (d : Z) (xs : List X) (i : ℕ) → option_map_or (λ x. g (f x)) (slice_get xs i) d ≡ option_map_or g (slice_get (map f xs) i) d
get-mapped f g d [] i = refl
get-mapped f g d (x ∷ xs) zero = refl
get-mapped f g d (x ∷ xs) (suc i) = get-mapped f g d xs i

pub there_mapped : {X Y : Type 0} (f : X → Y) (xs : List X) (i : ℕ) (x : X) → i < length xs → x ≡ get_or xs i x → slice_get (map f xs) i ≡ Some (f x)
there_mapped f [] i x lt e = absurd (omega (arith, lt))
there_mapped f (y ∷ ys) zero x lt e = ap (λ z. Some (f z)) (sym e)
there_mapped f (y ∷ ys) (suc i) x lt e = there_mapped f ys i x (omega (arith, lt)) e

take-mapped : {X Y : Type 0} (f : X → Y) (n : ℕ) (xs : List X) → map f (take n xs) ≡ take n (map f xs)
take-mapped f zero xs = refl
take-mapped f (suc n) [] = refl
take-mapped f (suc n) (x ∷ xs) = ap (λ ys. f x ∷ ys) (take-mapped f n xs)

-- the test of the last one
abbrev pub stands_behind : {X : Type 0} → (X → List Text) → List X → X → Bool
stands_behind key kept one = option_map_or (λ last. is_lt (parts_cmp (key last) (key one))) (slice_get kept (length kept - 1)) true

by_keys : {X : Type 0} (key : X → List Text) (kept : List X) (one : X)
    → stands_behind key kept one ≡ option_map_or (λ last. is_lt (parts_cmp last (key one))) (slice_get (map key kept) (length (map key kept) - 1)) true
by_keys key kept one =
    get-mapped key (λ last. is_lt (parts_cmp last (key one))) true kept (length kept - 1)
    ∙ ap (λ (n : ℕ). option_map_or (λ last. is_lt (parts_cmp last (key one))) (slice_get (map key kept) (n - 1)) true) (sym (length-same key kept))

pub one-kept : {X : Type 0} (key : X → List Text) (sorted kept new : List X) (i : ℕ) (one : X) → i < length sorted → one ≡ get_or sorted i one
    → stands_behind key kept one ≡ true → new ≡ kept ++ one ∷ [] → AreKept key sorted kept i → AreKept key sorted new (i + 1)
one-kept {X} key sorted kept new i one l is behind e (rise, all, among, few) =
    subst (λ (xs : List X). AreKept key sorted xs (i + 1)) (sym e) (
      subst Rise (sym (map-append key kept (one ∷ []))) (rise-push (map key kept) (key one) rise (sym (by_keys key kept one) ∙ behind)),
      (λ whole. ap (λ (xs : List X). xs ++ one ∷ []) (all whole) ∙ (ap (λ (x : X). take i sorted ++ x ∷ []) is ∙ sym (take_more sorted i one l))),
      All-push (λ n. Contains sorted n) kept one among (i, l, sym is),
      omega (arith, few, longer kept one),
    )
  where
    longer : {Y : Type 0} (xs : List Y) (y : Y) → length (xs ++ y ∷ []) ≡ length xs + 1
    longer [] y = refl
    longer (x ∷ xs) y = let n = longer xs y in omega (arith, n)

pub one-left_out : {X : Type 0} (key : X → List Text) (sorted kept : List X) (i : ℕ) (one : X) → i < length sorted → one ≡ get_or sorted i one
    → stands_behind key kept one ≡ false → AreKept key sorted kept i → AreKept key sorted kept (i + 1)
one-left_out {X} key sorted kept i one l is behind (rise, all, among, few) = (
  rise,
  (λ whole.
      let front : map key kept ≡ take i (map key sorted) = ap (map key) (all whole) ∙ take-mapped key i sorted in
      let next = next-behind (map key sorted) i (key one) whole (there_mapped key sorted i one l is) in
      let yes : stands_behind key kept one ≡ true =
      by_keys key kept one ∙ (ap (λ (ks : List (List Text)). option_map_or (λ last. is_lt (parts_cmp last (key one))) (slice_get ks (length ks - 1)) true) front ∙ next) in
      absurd (let no = sym yes ∙ behind in cc no)),
  among,
  omega (arith, few),
)

-- those that are kept have their places
pub kept-placed : {X : Type 0} (P : X → Type 0) (all sorted kept : List X) → IsPermutation all sorted → All P all → All (λ n. Contains sorted n) kept → All P kept
kept-placed P all sorted kept moved each among k d l = All-contains P sorted (get_or kept k d) (All-permutation P all sorted moved each) (among k d l)

-- where names are distinct, all are kept
pub all-kept : {X : Type 0} (logger : X → LoggerSetting) (loggers : List LoggerSetting) (all sorted kept : List X) → map logger all ≡ loggers → IsPermutation all sorted
    → IsSortedByKey (λ n. components (logger n).name) parts_cmp sorted → (Rise (map (λ n. components (logger n).name) sorted) → kept ≡ sorted)
    → HaveDistinctNames loggers → IsPermutation loggers (map logger kept)
all-kept {X} logger loggers all sorted kept whole moved rising keeps distinct =
    let same : IsPermutation loggers (map logger sorted) = subst (λ (xs : List LoggerSetting). IsPermutation xs (map logger sorted)) whole (IsPermutation-map logger all sorted moved) in
    subst (λ (xs : List X). IsPermutation loggers (map logger xs)) (sym (keeps (sorted-rises logger sorted loggers distinct same rising))) same
