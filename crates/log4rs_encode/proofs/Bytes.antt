-- The bytes of joined runs.
use Rattle.std.proofs.Common.{◌≡◌, ℕ, List, [], ◌∷◌, ◌++◌, refl, ap, ◌∙◌}
use Rattle.std.proofs.lemmas.List.{append_assoc}
use Rattle.log4rs_encode.specs.Runs.{Run, text, style, before, join, plain_bytes}

plain_bytes-before : (r : Run) (rs : List Run) → plain_bytes (before r rs) ≡ plain_bytes (r ∷ rs)
plain_bytes-before (text []) rs = refl
plain_bytes-before (text (b ∷ bs)) [] = refl
plain_bytes-before (text (b ∷ bs)) (text t ∷ rs) = append_assoc (b ∷ bs) t (plain_bytes rs)
plain_bytes-before (text (b ∷ bs)) (style s ∷ rs) = refl
plain_bytes-before (style s) rs = refl

plain_bytes-first : (r : Run) (xs ys : List Run) → plain_bytes xs ≡ plain_bytes ys → plain_bytes (r ∷ xs) ≡ plain_bytes (r ∷ ys)
plain_bytes-first (text t) xs ys e = ap (λ (p : List ℕ). t ++ p) e
plain_bytes-first (style s) xs ys e = e

-- joining changes no byte
pub plain_bytes-join : (rs : List Run) → plain_bytes (join rs) ≡ plain_bytes rs
plain_bytes-join [] = refl
plain_bytes-join (r ∷ rs) = plain_bytes-before r (join rs) ∙ plain_bytes-first r (join rs) rs (plain_bytes-join rs)
