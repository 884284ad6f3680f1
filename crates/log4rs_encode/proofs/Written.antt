-- The bytes that a writer has had, run by run.
use Rattle.std.proofs.Common.{◌≡◌, ℕ, List, [], ◌∷◌, ◌++◌, Option, refl, sym, ap, subst, ◌∙◌}
use Rattle.std.proofs.lemmas.List.{append_assoc, append-nil}
use Rattle.std.specs.Io.KnownBytes.{Appends}
use Rattle.std.proofs.KnownBytes.{Appends-trans}
use Rattle.log4rs_encode.specs.Ansi.{style_bytes, ansi_bytes}
use Rattle.log4rs_encode.specs.Runs.{Run, text, style, plain_bytes}

-- what was had, and what the runs that are left have, is all
abbrev pub Has : (List Run → List ℕ) → Option (List ℕ) → Option (List ℕ) → List Run → List Run → Type 0
Has bytes a b rest all = (had : List ℕ) × Appends a b had × (had ++ bytes rest ≡ bytes all)

plain-cons : (r : Run) (rs : List Run) → plain_bytes (r ∷ rs) ≡ plain_bytes (r ∷ []) ++ plain_bytes rs
plain-cons (text t) rs = ap (λ (w : List ℕ). w ++ plain_bytes rs) (sym (append-nil t))
plain-cons (style s) rs = refl

ansi-cons : (r : Run) (rs : List Run) → ansi_bytes (r ∷ rs) ≡ ansi_bytes (r ∷ []) ++ ansi_bytes rs
ansi-cons (text t) rs = ap (λ (w : List ℕ). w ++ ansi_bytes rs) (sym (append-nil t))
ansi-cons (style s) rs = ap (λ (w : List ℕ). w ++ ansi_bytes rs) (sym (append-nil (style_bytes s)))

more : (bytes : List Run → List ℕ) → ((r : Run) (rs : List Run) → bytes (r ∷ rs) ≡ bytes (r ∷ []) ++ bytes rs)
    → (a b c : Option (List ℕ)) (rs rest all : List Run) (r : Run) → rs ≡ r ∷ rest → Has bytes a b rs all → Appends b c (bytes (r ∷ [])) → Has bytes a c rest all
more bytes splits a b c rs rest all r is h k = (
  h.0 ++ bytes (r ∷ []),
  Appends-trans a b c h.0 (bytes (r ∷ [])) h.1 k,
  append_assoc h.0 (bytes (r ∷ [])) (bytes rest)
      ∙ ap (λ (w : List ℕ). h.0 ++ w) (sym (splits r rest))
      ∙ ap (λ (w : List Run). h.0 ++ bytes w) (sym is)
      ∙ h.2,
)

-- one run more, in plain bytes
pub plain_more : (a b c : Option (List ℕ)) (rs rest all : List Run) (r : Run) → rs ≡ r ∷ rest → Has plain_bytes a b rs all → Appends b c (plain_bytes (r ∷ [])) → Has plain_bytes a c rest all
plain_more = more plain_bytes plain-cons

-- one run more, in the bytes of a terminal
pub ansi_more : (a b c : Option (List ℕ)) (rs rest all : List Run) (r : Run) → rs ≡ r ∷ rest → Has ansi_bytes a b rs all → Appends b c (ansi_bytes (r ∷ [])) → Has ansi_bytes a c rest all
ansi_more = more ansi_bytes ansi-cons

whole : (bytes : List Run → List ℕ) → bytes [] ≡ [] → (a b : Option (List ℕ)) (rs all : List Run) → rs ≡ [] → Has bytes a b rs all → Appends a b (bytes all)
whole bytes nothing a b rs all none h =
    subst (Appends a b) (sym (append-nil h.0) ∙ ap (λ (w : List ℕ). h.0 ++ w) (sym (ap bytes none ∙ nothing)) ∙ h.2) h.1

-- nothing is left
pub all_plain : (a b : Option (List ℕ)) (rs all : List Run) → rs ≡ [] → Has plain_bytes a b rs all → Appends a b (plain_bytes all)
all_plain = whole plain_bytes refl

pub all_ansi : (a b : Option (List ℕ)) (rs all : List Run) → rs ≡ [] → Has ansi_bytes a b rs all → Appends a b (ansi_bytes all)
all_ansi = whole ansi_bytes refl
