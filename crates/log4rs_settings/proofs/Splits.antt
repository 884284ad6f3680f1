-- What stands before and behind the last of a byte, by the split at it.
use Rattle.std.proofs.Common.{◌≡◌, ◌≢◌, ◌<◌, ◌≤◌, ◌+◌, ◌-◌, ◌==◌, ℕ, List, [], Bor, true, false, length, take, drop, get_or, Some, not, refl, sym, ap, ◌∙◌, arith, ne_eqb}
use Rattle.std.proofs.lemmas.Bool.{eq-eqb}
use Rattle.std.proofs.lemmas.List.{length-drop}
use Rattle.std.proofs.lemmas.List.Sums.{suffix_len_is}
use Rattle.std.proofs.lemmas.Str.Pattern.{NoCharPasses-char, drop_at_char}
use Rattle.std.proofs.Math.Seq.{get_or-drop}
use Rattle.std.specs.List.{suffix_len, before_last, after_last}
use Rattle.std.specs.Str.Pattern.{RFindsChar}

-- what a split at the last of a byte says
abbrev pub Splits : ℕ → List ℕ → Bor (List ℕ) × Bor (List ℕ) → Type 0
Splits sep text x = (i : ℕ) × (j : ℕ) × RFindsChar sep text (Some (i, j)) × (x.0.now ≡ take i text)
    × (x.1.now ≡ drop j text) × (i ≤ j) × (length x.0.now ≡ i) × (length x.1.now + j ≡ length text)

other : (sep b : ℕ) → b ≢ sep → not (b == sep) ≡ true
other sep b h = rw (ne_eqb b sep h) refl

-- a text with none of that byte
none_of : (sep : ℕ) (text : List ℕ) → ((k : ℕ) → k < length text → get_or text k 0 ≢ sep) → suffix_len (λ b. not (b == sep)) text ≡ length text - 0
none_of sep text others = suffix_len_is (λ b. not (b == sep)) text 0 0 (omega arith) (λ k l h. other sep _ (others k h)) (λ l. absurd (omega arith))

pub before-none : (sep : ℕ) (text : List ℕ) → ((k : ℕ) → k < length text → get_or text k 0 ≢ sep) → before_last (λ b. b == sep) text ≡ []
before-none sep text others =
    let all = none_of sep text others in
    let none : length text - suffix_len (λ b. not (b == sep)) text - 1 ≡ 0 = omega (arith, all) in
    ap (λ n. take n text) none

pub after-none : (sep : ℕ) (text : List ℕ) → ((k : ℕ) → k < length text → get_or text k 0 ≢ sep) → after_last (λ b. b == sep) text ≡ text
after-none sep text others =
    let all = none_of sep text others in
    let none : length text - suffix_len (λ b. not (b == sep)) text ≡ 0 = omega (arith, all) in
    ap (λ n. drop n text) none

-- behind the match there is none of that byte, and at its end there is one
last_of : (sep : ℕ) (text : List ℕ) (x : Bor (List ℕ) × Bor (List ℕ)) → sep < 128 → (at : Splits sep text x) → at.1 ≡ at.0 + 1
    → suffix_len (λ b. not (b == sep)) text ≡ length text - at.1
last_of sep text x low at ends =
    let behind : (k : ℕ) → at.1 ≤ k → k < length text → not (get_or text k 0 == sep) ≡ true =
    λ k l h. other sep _ (λ e.
    let there : k - at.1 < length (drop at.1 text) = omega (arith, l, h, length-drop at.1 text) in
    let same : at.1 + (k - at.1) ≡ k = omega (arith, l) in
    NoCharPasses-char sep (drop at.1 text) (k - at.1) at.2.0 low there
    (get_or-drop at.1 text (k - at.1) 0 ∙ ap (λ n. get_or text n 0) same ∙ e)) in
    let here : not (get_or text (at.1 - 1) 0 == sep) ≡ false =
    let at_it : get_or text (at.1 - 1) 0 ≡ sep =
    ap (λ n. get_or text n 0) (omega (arith, ends)) ∙ sym (get_or-drop at.0 text 0 0)
    ∙ ap (λ t. get_or t 0 0) (drop_at_char sep text at.0 at.1 at.2.1 low) in
    ap not (eq-eqb _ sep at_it) in
    suffix_len_is (λ b. not (b == sep)) text at.1 0 (omega (arith, at.7)) behind (λ l. here)

pub before-split : (sep : ℕ) (text : List ℕ) (x : Bor (List ℕ) × Bor (List ℕ)) → sep < 128 → (at : Splits sep text x) → at.1 ≡ at.0 + 1
    → before_last (λ b. b == sep) text ≡ x.0.now
before-split sep text x low at ends =
    let last = last_of sep text x low at ends in
    let front : length text - suffix_len (λ b. not (b == sep)) text - 1 ≡ at.0 = omega (arith, last, ends, at.7) in
    ap (λ n. take n text) front ∙ sym at.3

pub after-split : (sep : ℕ) (text : List ℕ) (x : Bor (List ℕ) × Bor (List ℕ)) → sep < 128 → (at : Splits sep text x) → at.1 ≡ at.0 + 1
    → after_last (λ b. b == sep) text ≡ x.1.now
after-split sep text x low at ends =
    let last = last_of sep text x low at ends in
    let back : length text - suffix_len (λ b. not (b == sep)) text ≡ at.1 = omega (arith, last, at.7) in
    ap (λ n. drop n text) back ∙ sym at.4
