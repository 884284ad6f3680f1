-- Copies of texts, which are the same texts.
use Rattle.std.proofs.Common.{◌≡◌, List, [], ◌∷◌, map, String, Global, string_bytes, Result, Ok, Err, IfOk, MatchResult, refl, ap, ◌∙◌}
use Rattle.std.specs.List.{AllZip}
use Rattle.log4rs_base.specs.Text.{Text}

pub same_texts : (xs ys : List (String Global)) → AllZip (λ (x y : String Global). string_bytes y ≡ string_bytes x) xs ys → map (λ s. string_bytes s) ys ≡ map (λ s. string_bytes s) xs
same_texts [] [] all = refl
same_texts [] (y ∷ ys) all = absurd all
same_texts (x ∷ xs) [] all = absurd all
same_texts (x ∷ xs) (y ∷ ys) (same, all) =
    ap (λ (t : Text). t ∷ map (λ s. string_bytes s) ys) same ∙ ap (λ (ts : List Text). string_bytes x ∷ ts) (same_texts xs ys all)

-- what holds of each Ok holds where the result is one
pub if_ok : {A X : Type 0} (r : Result A X) (P Q : A → Type 0) (E : X → Type 0) → ((a : A) → P a → Q a) → MatchResult r P E → IfOk r Q
if_ok (Ok a) P Q E weaker p = weaker a p
if_ok (Err x) P Q E weaker p = tt
