-- The parent of a path, by the split at its last slash.
use Rattle.std.proofs.Common.{◌≡◌, ◌≢◌, ◌<◌, ◌≤◌, ◌+◌, ◌-◌, ℕ, List, [], Bor, true, false, length, take, drop, get_or, Some, not, refl, sym, ap, ◌∙◌, arith, ne_eqb}
use Rattle.std.proofs.lemmas.List.{length-drop}
use Rattle.std.proofs.lemmas.List.Sums.{suffix_len_is}
use Rattle.std.proofs.lemmas.Str.Pattern.{NoCharPasses-char, drop_at_char}
use Rattle.std.proofs.Math.Seq.{get_or-drop}
use Rattle.std.specs.List.{suffix_len, before_last}
use Rattle.std.specs.Str.Pattern.{RFindsChar}
use Rattle.log4rs_base.specs.Parent.{slash, is_slash}

other : (b : ℕ) → b ≢ slash → not (is_slash b) ≡ true
other b h = rw (ne_eqb b slash h) refl

-- nothing stands before the last slash of a text with none
pub before_last-none : (path : List ℕ) → ((k : ℕ) → k < length path → get_or path k 0 ≢ slash) → before_last is_slash path ≡ []
before_last-none path others =
    let all : suffix_len (λ b. not (is_slash b)) path ≡ length path - 0 =
    suffix_len_is (λ b. not (is_slash b)) path 0 0 (omega arith) (λ k l h. other _ (others k h)) (λ l. absurd (omega arith)) in
    let none : length path - suffix_len (λ b. not (is_slash b)) path - 1 ≡ 0 = omega (arith, all) in
    ap (λ n. take n path) none

-- what the split at the last slash gives
pub before_last-split : (path : List ℕ) (x : Bor (List ℕ) × Bor (List ℕ))
    → ((i : ℕ) × (j : ℕ) × RFindsChar slash path (Some (i, j)) × (x.0.now ≡ take i path)
    × (x.1.now ≡ drop j path) × (i ≤ j) × (length x.0.now ≡ i) × (length x.1.now + j ≡ length path))
    → before_last is_slash path ≡ x.0.now
before_last-split path x at =
    let ends : at.1 ≡ at.0 + 1 = at.2.1.ends in
    let behind : (k : ℕ) → at.1 ≤ k → k < length path → not (is_slash (get_or path k 0)) ≡ true =
    λ k l h. other _ (λ e.
    let there : k - at.1 < length (drop at.1 path) = omega (arith, l, h, length-drop at.1 path) in
    let same : at.1 + (k - at.1) ≡ k = omega (arith, l) in
    NoCharPasses-char slash (drop at.1 path) (k - at.1) at.2.0 (omega arith) there
    (get_or-drop at.1 path (k - at.1) 0 ∙ ap (λ n. get_or path n 0) same ∙ e)) in
    let here : not (is_slash (get_or path (at.1 - 1) 0)) ≡ false =
    let at_slash : get_or path (at.1 - 1) 0 ≡ slash =
    ap (λ n. get_or path n 0) (omega (arith, ends)) ∙ sym (get_or-drop at.0 path 0 0)
    ∙ ap (λ t. get_or t 0 0) (drop_at_char slash path at.0 at.1 at.2.1 (omega arith)) in
    rw at_slash refl in
    let last : suffix_len (λ b. not (is_slash b)) path ≡ length path - at.1 =
    suffix_len_is (λ b. not (is_slash b)) path at.1 0 (omega (arith, at.7)) behind (λ l. here) in
    let front : length path - suffix_len (λ b. not (is_slash b)) path - 1 ≡ at.0 = omega (arith, last, ends, at.7) in
    ap (λ n. take n path) front ∙ sym at.3
