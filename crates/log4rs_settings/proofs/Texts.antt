-- Names are read one after another.
use Rattle.std.proofs.Common.{◌≡◌, List, [], ◌∷◌, ◌++◌, map, String, Global, string_bytes, refl, ap}

pub names-last : (xs : List (String Global)) (x : String Global) → map string_bytes (xs ++ x ∷ []) ≡ map string_bytes xs ++ string_bytes x ∷ []
names-last [] x = refl
names-last (y ∷ xs) x = ap (λ l. string_bytes y ∷ l) (names-last xs x)
