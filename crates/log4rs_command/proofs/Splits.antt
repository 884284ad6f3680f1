-- Texts that a byte splits.
use Rattle.std.proofs.Common.{◌≡◌, ◌≢◌, ℕ, ◌<◌, List, [], ◌∷◌, ◌++◌, take, drop, All, Option, Some, None, MatchOption, Bor, sym, refl, ap, ◌∙◌, subst}
use Rattle.std.specs.Str.Pattern.{RFindsChar, SplitsAroundMatch}
use Rattle.std.proofs.lemmas.List.{take-append-drop}
use Rattle.std.proofs.lemmas.List.Elements.{All-head, All-tail, All-from_get_or}
use Rattle.std.proofs.lemmas.Str.Pattern.{IsSplitOnceResult, NoCharPasses-char, drop_at_char, split_parts}

abbrev pub IsNot : ℕ → ℕ → Type 0
IsNot c b = b ≢ c

-- c stands between xs and ys, and not in xs
abbrev pub SplitsFirst : ℕ → List ℕ → List ℕ → List ℕ → Type 0
SplitsFirst c bs xs ys = (bs ≡ xs ++ (c ∷ ys)) × All (IsNot c) xs

-- c stands between xs and ys, and not in ys
abbrev pub SplitsLast : ℕ → List ℕ → List ℕ → List ℕ → Type 0
SplitsLast c bs xs ys = (bs ≡ xs ++ (c ∷ ys)) × All (IsNot c) ys

in_middle : (c : ℕ) (xs ys : List ℕ) → All (IsNot c) (xs ++ (c ∷ ys)) → ⊥
in_middle c [] ys none = All-head (IsNot c) c ys none refl
in_middle c (x ∷ xs) ys none = in_middle c xs ys (All-tail (IsNot c) x (xs ++ (c ∷ ys)) none)

-- a text without c is not split by it
pub unsplit : (c : ℕ) (bs xs ys : List ℕ) → All (IsNot c) bs → bs ≡ xs ++ (c ∷ ys) → ⊥
unsplit c bs xs ys none e = in_middle c xs ys (subst (λ l. All (IsNot c) l) e none)

pub first_unique : (c : ℕ) (w w' r r' : List ℕ) → All (IsNot c) w → All (IsNot c) w' → w ++ (c ∷ r) ≡ w' ++ (c ∷ r') → (w ≡ w') × (r ≡ r')
first_unique c [] [] r r' n m e = (refl, cc)
first_unique c [] (x ∷ w') r r' n m e = absurd (All-head (IsNot c) x w' m (cc))
first_unique c (x ∷ w) [] r r' n m e = absurd (All-head (IsNot c) x w n (cc))
first_unique c (x ∷ w) (y ∷ w') r r' n m e =
    let t : w ++ (c ∷ r) ≡ w' ++ (c ∷ r') = cc in
    let u : (w ≡ w') × (r ≡ r') = first_unique c w w' r r' (All-tail (IsNot c) x w n) (All-tail (IsNot c) y w' m) t in
    (cc (u.0), u.1)

pub last_unique : (c : ℕ) (w w' r r' : List ℕ) → All (IsNot c) r → All (IsNot c) r' → w ++ (c ∷ r) ≡ w' ++ (c ∷ r') → (w ≡ w') × (r ≡ r')
last_unique c [] [] r r' n m e = (refl, cc)
last_unique c [] (x ∷ w') r r' n m e = absurd (unsplit c r w' r' n (cc))
last_unique c (x ∷ w) [] r r' n m e = absurd (unsplit c r' w r m (cc))
last_unique c (x ∷ w) (y ∷ w') r r' n m e =
    let t : w ++ (c ∷ r) ≡ w' ++ (c ∷ r') = cc in
    let u : (w ≡ w') × (r ≡ r') = last_unique c w w' r r' n m t in
    (cc (u.0), u.1)

-- what `split_once` answers at an ASCII character
pub split_once_parts : (c : ℕ) (bs : List ℕ) (r : Option (Bor (List ℕ) × Bor (List ℕ))) → IsSplitOnceResult c bs r → c < 128
    → MatchOption r (All (IsNot c) bs) (λ x. SplitsFirst c bs x.0.now x.1.now)
split_once_parts c bs None h ascii = All-from_get_or (IsNot c) bs 0 (split_parts c bs None h ascii)
split_once_parts c bs (Some x) h ascii =
    let parts = split_parts c bs (Some x) h ascii in
    (parts.0, All-from_get_or (IsNot c) x.0.now 0 parts.1)

-- the clause of `rsplit_once` at a character
abbrev pub IsRsplitOnceResult : ℕ → List ℕ → Option (Bor (List ℕ) × Bor (List ℕ)) → Type 0
IsRsplitOnceResult c bs r = MatchOption r (RFindsChar c bs None) (λ x. SplitsAroundMatch (RFindsChar c) bs x.0.now x.1.now)

-- what `rsplit_once` answers at an ASCII character
pub rsplit_once_parts : (c : ℕ) (bs : List ℕ) (r : Option (Bor (List ℕ) × Bor (List ℕ))) → IsRsplitOnceResult c bs r → c < 128
    → MatchOption r (All (IsNot c) bs) (λ x. SplitsLast c bs x.0.now x.1.now)
rsplit_once_parts c bs None h ascii = All-from_get_or (IsNot c) bs 0 (λ k inside. NoCharPasses-char c bs k h ascii inside)
rsplit_once_parts c bs (Some x) h ascii =
    let at : drop h.0 bs ≡ c ∷ drop h.1 bs = drop_at_char c bs h.0 h.1 h.2.1 ascii in
    let whole : bs ≡ take h.0 bs ++ (c ∷ drop h.1 bs) = sym (take-append-drop h.0 bs) ∙ ap (λ l. take h.0 bs ++ l) at in
    let none : All (IsNot c) (drop h.1 bs) = All-from_get_or (IsNot c) (drop h.1 bs) 0 (λ k inside. NoCharPasses-char c (drop h.1 bs) k h.2.0 ascii inside) in
    (rw (h.3, h.4) whole, subst (λ l. All (IsNot c) l) (sym h.4) none)
