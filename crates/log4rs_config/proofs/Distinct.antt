-- Loggers of distinct names are told apart by their names, and so by their components.
use Rattle.std.proofs.Common.{◌≡◌, zero, suc, Bool, true, false, cond, not, ◌||◌, List, [], ◌∷◌, Option, Some, None, ◌⊎◌, inl, inr, Contains, map, find, reverse, refl, sym, ap, ◌∙◌, arith}
use Rattle.std.specs.List.Sorted.{IsPermutation}
use Rattle.std.specs.Str.{bytes_eq}
use Rattle.std.proofs.lemmas.Bool.{and_parts, not-true}
use Rattle.std.proofs.lemmas.List.{reverse-reverse}
use Rattle.std.proofs.lemmas.List.Sorted.{IsPermutation-sym, Contains-permutation}
use Rattle.std.proofs.lemmas.Slice.Eq.{bytes_eq-Decides}
use Rattle.log4rs_base.specs.Text.{Text}
use Rattle.log4rs_config.specs.Name.{components, path_of}
use Rattle.log4rs_config.specs.Settings.{LoggerSetting, is_among}
use Rattle.log4rs_config.specs.Routing.{is_at}
use Rattle.log4rs_config.specs.Laws.{SameLookup, HaveDistinctNames}
use Rattle.log4rs_config.proofs.Joined.{joined-components}
use Rattle.log4rs_config.specs.Walk.{joined}
use Rattle.log4rs_config.proofs.Walks.{is_at-Decides, find-passes}

-- names of one path are the same
pub path-injective : (x y : Text) → path_of x ≡ path_of y → x ≡ y
path-injective x y e =
    sym (joined-components x)
    ∙ (ap joined (sym (reverse-reverse (components x)) ∙ (ap reverse e ∙ reverse-reverse (components y)))
    ∙ joined-components y)

Contains-cases : {X : Type 0} (x : X) (xs : List X) (y : X) → Contains (x ∷ xs) y → (x ≡ y) ⊎ Contains xs y
Contains-cases x xs y (zero, h, e) = inl e
Contains-cases x xs y (suc k, h, e) = inr (k, omega arith, e)

or_second : (a b : Bool) → b ≡ true → (a || b) ≡ true
or_second true b e = refl
or_second false b e = e

name-among : (loggers : List LoggerSetting) (name : Text) (y : LoggerSetting) → Contains loggers y → name ≡ y.name
    → is_among (map (λ l. l.name) loggers) name ≡ true
name-among [] name y (k, h, e) n = absurd (omega arith)
name-among (l ∷ loggers) name y c n =
    elim (Contains-cases l loggers y c) [
      | inl same ↦ ap (λ (b : Bool). b || is_among (map (λ (x : LoggerSetting). x.name) loggers) name)
          ((bytes_eq-Decides name l.name).1 (n ∙ ap (λ (x : LoggerSetting). x.name) (sym same)))
      | inr below ↦ or_second (bytes_eq name l.name) (is_among (map (λ (x : LoggerSetting). x.name) loggers) name) (name-among loggers name y below n)
    ]

-- of distinct names, one name is one logger
pub logger-of_name : (loggers : List LoggerSetting) → HaveDistinctNames loggers → (x y : LoggerSetting) → Contains loggers x → Contains loggers y
    → x.name ≡ y.name → x ≡ y
logger-of_name [] d x y (k, h, e) c n = absurd (omega arith)
logger-of_name (l ∷ loggers) d x y b c n =
    let (apart, rest) = and_parts (not (is_among (map (λ (x : LoggerSetting). x.name) loggers) l.name)) _ d in
    let other : is_among (map (λ (x : LoggerSetting). x.name) loggers) l.name ≡ false = not-true _ apart in
    elim (Contains-cases l loggers x b) [
      | inl p ↦ elim (Contains-cases l loggers y c) [
        | inl q ↦ sym p ∙ q
        | inr q ↦ let t = name-among loggers l.name y q (ap (λ (z : LoggerSetting). z.name) p ∙ n) in cc
      ]
      | inr p ↦ elim (Contains-cases l loggers y c) [
        | inl q ↦ let t = name-among loggers l.name x p (ap (λ (z : LoggerSetting). z.name) q ∙ sym n) in cc
        | inr q ↦ logger-of_name loggers rest x y p q n
      ]
    ]

found_among : {X : Type 0} (y x : X) (ys : List X) (b : Bool) (r : Option X) → cond b (Some y) r ≡ Some x → (r ≡ Some x → Contains ys x) → Contains (y ∷ ys) x
found_among y x ys true r e k = (0, omega arith, cc)
found_among y x ys false r e k = let (i, h, is) = k e in (suc i, omega arith, is)

-- what is found is among them
pub find-among : {X : Type 0} (p : X → Bool) (xs : List X) (x : X) → find p xs ≡ Some x → Contains xs x
find-among p [] x e = cc
find-among p (y ∷ ys) x e = found_among y x ys (p y) (find p ys) e (λ (f : find p ys ≡ Some x). find-among p ys x f)

none_among : {X : Type 0} (p : X → Bool) (y x : X) (ys : List X) (b : Bool) (r : Option X) → p y ≡ b → cond b (Some y) r ≡ None → (y ≡ x) ⊎ Contains ys x
    → (r ≡ None → Contains ys x → p x ≡ false) → p x ≡ false
none_among p y x ys true r t e c k = cc
none_among p y x ys false r t e (inl same) k = ap p (sym same) ∙ t
none_among p y x ys false r t e (inr below) k = k e below

-- where nothing is found, each fails
pub find-none : {X : Type 0} (p : X → Bool) (xs : List X) (x : X) → find p xs ≡ None → Contains xs x → p x ≡ false
find-none p [] x e (k, h, is) = absurd (omega arith)
find-none p (y ∷ ys) x e c =
    none_among p y x ys (p y) (find p ys) refl e (Contains-cases y ys x c) (λ (f : find p ys ≡ None) (d : Contains ys x). find-none p ys x f d)

same_found : {X : Type 0} (p : X → Bool) (xs ys : List X) (o o' : Option X) → find p xs ≡ o → find p ys ≡ o'
    → ((x : X) → Contains xs x → Contains ys x) → ((x : X) → Contains ys x → Contains xs x)
    → ((x y : X) → Contains xs x → Contains xs y → p x ≡ true → p y ≡ true → x ≡ y) → o ≡ o'
same_found p xs ys None None e f there back one = refl
same_found p xs ys None (Some y) e f there back one =
    let no = find-none p xs y e (back y (find-among p ys y f)) in let yes = find-passes p ys y f in cc
same_found p xs ys (Some x) None e f there back one =
    let no = find-none p ys x f (there x (find-among p xs x e)) in let yes = find-passes p xs x e in cc
same_found {X} p xs ys (Some x) (Some y) e f there back one =
    ap (λ (z : X). Some z) (one x y (find-among p xs x e) (back y (find-among p ys y f)) (find-passes p xs x e) (find-passes p ys y f))

-- at most one logger of distinct names is at a path
pub logger-at_path : (loggers : List LoggerSetting) → HaveDistinctNames loggers → (path : List Text) (x y : LoggerSetting)
    → Contains loggers x → Contains loggers y → path_of x.name ≡ path → path_of y.name ≡ path → x ≡ y
logger-at_path loggers d path x y b c p q = logger-of_name loggers d x y b c (path-injective x.name y.name (p ∙ sym q))

-- loggers of distinct names are found in any order
pub permuted : (xs ys : List LoggerSetting) → IsPermutation xs ys → HaveDistinctNames xs → SameLookup xs ys
permuted xs ys p d path =
    same_found (is_at path) xs ys (find (is_at path) xs) (find (is_at path) ys) refl refl
    (λ x c. Contains-permutation xs ys x p c) (λ x c. Contains-permutation ys xs x (IsPermutation-sym xs ys p) c)
    (λ x y b c t u. logger-at_path xs d path x y b c ((is_at-Decides path x).0 t) ((is_at-Decides path y).0 u))
