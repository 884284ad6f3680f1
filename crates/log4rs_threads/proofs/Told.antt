-- Faults that are told.
use Rattle.std.proofs.Common.{◌≡◌, ℕ, suc, zero, List, [], ◌∷◌, ◌<◌, ◌+◌, ◌++◌, Option, Some, None, map, length, get_or, take, Result, Ok, Err, IsOk, MatchResult, arith, sym, ◌∙◌, ap, subst, append-nil}
use Rattle.std.proofs.lemmas.List.{take_more}

-- one fault more was told
pub told_more : {A : Type 0} (errors : List (Option A)) (k : ℕ) (item : Option A) (a : A)
    → k < length errors → item ≡ get_or errors k item → item ≡ Some a → take (k + 1) errors ≡ take k errors ++ Some a ∷ []
told_more errors k item a within is some = take_more errors k item within ∙ ap (λ e. take k errors ++ e ∷ []) (sym is ∙ some)

-- each that was noted is one
pub never_none : {A : Type 0} (failed : List A) (k : ℕ) (item : Option A)
    → k < length (map Some failed) → item ≡ get_or (map Some failed) k item → item ≡ None → ⊥
never_none [] k item within is none = omega (arith, within)
never_none (x ∷ xs) zero item within is none = cc (is, none)
never_none (x ∷ xs) (suc k) item within is none = never_none xs k item (omega (arith, within)) is none

module _ {E M A : Type 0} (faults : List M → List A) (Made : List M → Type 0) (Kept : Type 0) (hears : List (Option A) → Type 0) (earlier : List (Option A)) (items : List (Option A)) where
  -- what was noted is told
  pub told_by_notes : (result : Result (Unit {0}) E)
      → MatchResult result (λ _. (made : List M) × Made made × (items ≡ map Some (faults made))) (λ _. Kept × (items ≡ map Some (faults [])))
      → ((failed : List A) → items ≡ map Some failed → MatchResult result (λ _. hears (earlier ++ map Some failed)) (λ _. hears (earlier ++ None ∷ [])))
      → MatchResult result (λ _. (made : List M) × Made made × hears (earlier ++ map Some (faults made))) (λ _. Kept × hears (earlier ++ None ∷ []))
  told_by_notes (Ok u) noted told = (noted.0, noted.1, told (faults noted.0) noted.2)
  told_by_notes (Err e) noted told = (noted.0, told (faults []) noted.1)

-- nothing more was told
pub told_nothing : {E F : Type 0} (hears : List F → Type 0) (earlier : List F) (Refused : E → Type 0) (result : Result (Unit {0}) E)
    → IsOk result → MatchResult result (λ _. hears (earlier ++ [])) Refused → hears earlier
told_nothing hears earlier Refused (Ok u) ok told = subst hears (append-nil earlier) told
told_nothing hears earlier Refused (Err e) ok told = absurd (cc ok)
