-- What stands at a path, one effect further back.
use Rattle.std.proofs.Common.{◌≡◌, ◌<◌, ◌≤◌, ℕ, ◌+◌, ◌-◌, List, [], ◌∷◌, ◌++◌, Option, refl, sym, ap, ◌∙◌, length, map, take, get_or, unwrap_or, arith}
use Rattle.std.proofs.lemmas.List.{map-append, take_all}
use Rattle.std.proofs.lemmas.Grind.{take_at_read}
use Rattle.log4rs_rolling.specs.Change.{Change, Files, after, replay, traced}
use Rattle.log4rs_rolling.specs.declared.store.effect.Effect.{Effect}
use Rattle.log4rs_rolling.specs.declared.store.lookups.Trace.{Trace}
use Rattle.log4rs_rolling.specs.MemStore.{change_of}

replay-append : (files : Files) (xs ys : List Change) → replay files (xs ++ ys) ≡ replay (replay files xs) ys
replay-append files [] ys = refl
replay-append files (x ∷ xs) ys = replay-append (after files x) xs ys

-- the files after the first so many effects
abbrev pub files_after : Files → List Effect → ℕ → Files
files_after start xs n = replay start (map change_of (take n xs))

-- the effects up to one, which comes after those before it
pub one_more_effect : (start : Files) (xs : List Effect) (n : ℕ) (x : Effect) → n < length xs → x ≡ get_or xs n x
    → files_after start xs (n + 1) ≡ after (files_after start xs n) (change_of x)
one_more_effect start xs n x within is =
    let split : take (n + 1) xs ≡ take n xs ++ x ∷ [] = (take_at_read xs n x within).1 ∙ ap (λ (z : Effect). take n xs ++ z ∷ []) (sym is) in
    ap (λ (c : List Effect). replay start (map change_of c)) split
    ∙ ap (replay start) (map-append change_of (take n xs) (x ∷ []))
    ∙ replay-append start (map change_of (take n xs)) (change_of x ∷ [])

-- what an effect says of a path
abbrev pub Says : Effect → List ℕ → Trace → Type 0
Says x path t = (files : Files) → after files (change_of x) path ≡ traced files path t

-- the file at a path, one effect further back
pub one_back : (start : Files) (xs : List Effect) (m : ℕ) (x : Effect) (path : List ℕ) (t u : Trace) → 0 < m → m ≤ length xs
    → x ≡ get_or xs (m - 1) x → Says x path t → t ≡ u
    → files_after start xs m path ≡ traced (files_after start xs (m - 1)) path u
one_back start xs m x path t u some within is says same =
    let next : m ≡ (m - 1) + 1 = omega (arith, some) in
    ap (λ (k : ℕ). files_after start xs k path) next
    ∙ ap (λ (f : Files). f path) (one_more_effect start xs (m - 1) x (omega (arith, some, within)) is)
    ∙ says (files_after start xs (m - 1))
    ∙ ap (traced (files_after start xs (m - 1)) path) same

-- all effects of a list
pub whole : (start : Files) (xs : List Effect) → files_after start xs (length xs) ≡ replay start (map change_of xs)
whole start xs = ap (λ (ys : List Effect). replay start (map change_of ys)) (take_all (length xs) xs (omega arith))

-- the length of a file, 0 where it is absent
abbrev pub size : Option (List ℕ) → ℕ
size file = length (unwrap_or file [])

-- the bytes of a file, none where it is absent
abbrev pub bytes : Option (List ℕ) → List ℕ
bytes file = unwrap_or file []
