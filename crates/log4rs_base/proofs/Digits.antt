-- Numbers with zeros in front, digit by digit.
use Rattle.std.proofs.Common.{◌≡◌, ℕ, ◌+◌, ◌-◌, ◌/◌, ◌%◌, ◌<◌, ◌≤◌, ◌⊎◌, inl, inr, List, [], ◌∷◌, ◌++◌, length, refl, sym, ap, ap₂, ◌∙◌, arith, codes, append_assoc, length-append}
use Rattle.std.specs.Prelude.{replicate}
use Rattle.std.specs.Fmt.{decimal}
use Rattle.std.proofs.lemmas.Fmt.{decimal_digit, decimal_step}
use Rattle.std.proofs.lemmas.List.{replicate_more}
use Rattle.log4rs_base.specs.Standard.{zero_filled, two_digits}

-- digits that are known, with the zeros in front
filled : (width : ℕ) (ds es : List ℕ) → ds ≡ es → replicate (width - length ds) 48 ++ ds ≡ replicate (width - length es) 48 ++ es
filled width ds es e = ap (λ (w : List ℕ). replicate (width - length w) 48 ++ w) e

decimal_two : (n : ℕ) → 10 ≤ n → n < 100 → decimal n ≡ (48 + n / 10) ∷ (48 + n % 10) ∷ []
decimal_two n low high = decimal_step n low (omega arith) ∙ ap (λ (w : List ℕ). w ++ (48 + n % 10) ∷ []) (decimal_digit (n / 10) (omega arith))

decimal_three : (n : ℕ) → 100 ≤ n → n < 1_000 → decimal n ≡ (48 + n / 10 / 10) ∷ (48 + n / 10 % 10) ∷ (48 + n % 10) ∷ []
decimal_three n low high = decimal_step n (omega arith) (omega arith) ∙ ap (λ (w : List ℕ). w ++ (48 + n % 10) ∷ []) (decimal_two (n / 10) (omega arith) (omega arith))

decimal_four : (n : ℕ) → 1_000 ≤ n → n < 10_000 → decimal n ≡ (48 + n / 10 / 10 / 10) ∷ (48 + n / 10 / 10 % 10) ∷ (48 + n / 10 % 10) ∷ (48 + n % 10) ∷ []
decimal_four n low high = decimal_step n (omega arith) (omega arith) ∙ ap (λ (w : List ℕ). w ++ (48 + n % 10) ∷ []) (decimal_three (n / 10) (omega arith) (omega arith))

below_or : (n m : ℕ) → (n < m) ⊎ (m ≤ n)
below_or n m = grind arith

pair : (a b c d : ℕ) → a ≡ c → b ≡ d → ◌≡◌ {A = List ℕ} (a ∷ b ∷ []) (c ∷ d ∷ [])
pair a b c d p q = cc

four_of : (a b c d e f g h : ℕ) → a ≡ e → b ≡ f → c ≡ g → d ≡ h → ◌≡◌ {A = List ℕ} (a ∷ b ∷ c ∷ d ∷ []) (e ∷ f ∷ g ∷ h ∷ [])
four_of a b c d e f g h p q r s = cc

-- the digits of a number below 100
pub two : (n : ℕ) → n < 100 → two_digits n ≡ (48 + n / 10) ∷ (48 + n % 10) ∷ []
two n high =
    elim (below_or n 10) [
      | inl below ↦ filled 2 (decimal n) ((48 + n) ∷ []) (decimal_digit n below) ∙ pair 48 (48 + n) (48 + n / 10) (48 + n % 10) (omega arith) (omega arith)
      | inr above ↦ filled 2 (decimal n) ((48 + n / 10) ∷ (48 + n % 10) ∷ []) (decimal_two n above high)
    ]

-- a number of four digits is two of two
pub four : (n : ℕ) → n < 10_000 → zero_filled 4 n ≡ two_digits (n / 100) ++ two_digits (n % 100)
four n high =
    digits ∙ four_of (48 + n / 1_000) (48 + n / 100 % 10) (48 + n / 10 % 10) (48 + n % 10) (48 + n / 100 / 10) (48 + n / 100 % 10) (48 + n % 100 / 10) (48 + n % 100 % 10)
    (omega arith) refl (omega arith) (omega arith)
    ∙ sym (ap₂ (λ (v w : List ℕ). v ++ w) (two (n / 100) (omega arith)) (two (n % 100) (omega arith)))
  where
    digits : zero_filled 4 n ≡ (48 + n / 1_000) ∷ (48 + n / 100 % 10) ∷ (48 + n / 10 % 10) ∷ (48 + n % 10) ∷ []
    digits =
        elim (below_or n 10) [
          | inl one ↦ filled 4 (decimal n) ((48 + n) ∷ []) (decimal_digit n one)
              ∙ four_of 48 48 48 (48 + n) (48 + n / 1_000) (48 + n / 100 % 10) (48 + n / 10 % 10) (48 + n % 10) (omega arith) (omega arith) (omega arith) (omega arith)
          | inr tens ↦ elim (below_or n 100) [
            | inl below ↦ filled 4 (decimal n) ((48 + n / 10) ∷ (48 + n % 10) ∷ []) (decimal_two n tens below)
                ∙ four_of 48 48 (48 + n / 10) (48 + n % 10) (48 + n / 1_000) (48 + n / 100 % 10) (48 + n / 10 % 10) (48 + n % 10) (omega arith) (omega arith) (omega arith) refl
            | inr hundreds ↦ elim (below_or n 1_000) [
              | inl below ↦ filled 4 (decimal n) ((48 + n / 10 / 10) ∷ (48 + n / 10 % 10) ∷ (48 + n % 10) ∷ []) (decimal_three n hundreds below)
                  ∙ four_of 48 (48 + n / 10 / 10) (48 + n / 10 % 10) (48 + n % 10) (48 + n / 1_000) (48 + n / 100 % 10) (48 + n / 10 % 10) (48 + n % 10) (omega arith) (omega arith) refl refl
              | inr thousands ↦ filled 4 (decimal n) ((48 + n / 10 / 10 / 10) ∷ (48 + n / 10 / 10 % 10) ∷ (48 + n / 10 % 10) ∷ (48 + n % 10) ∷ []) (decimal_four n thousands high)
                  ∙ four_of (48 + n / 10 / 10 / 10) (48 + n / 10 / 10 % 10) (48 + n / 10 % 10) (48 + n % 10) (48 + n / 1_000) (48 + n / 100 % 10) (48 + n / 10 % 10) (48 + n % 10) (omega arith) (omega arith) refl refl
            ]
          ]
        ]

-- one more digit at the end
digit_more : (w n : ℕ) → 0 < w → n < 1_000_000_000 → zero_filled (w + 1) n ≡ zero_filled w (n / 10) ++ (48 + n % 10) ∷ []
digit_more w n some high =
    elim (below_or n 10) [
      | inl below ↦
          let zeros : ◌≡◌ {A = List ℕ} (replicate (w + 1 - 1) 48) (replicate (w - 1) 48 ++ 48 ∷ []) = ap (λ (k : ℕ). replicate k 48) (omega arith) ∙ sym (replicate_more (w - 1) 48) in
          let tens : n / 10 ≡ 0 = omega arith in
          let last : 48 + n ≡ 48 + n % 10 = omega arith in
          let front : zero_filled w (n / 10) ≡ replicate (w - 1) 48 ++ 48 ∷ [] = ap (zero_filled w) tens ∙ filled w (decimal 0) (48 ∷ []) (decimal_digit 0 (omega arith)) in
          filled (w + 1) (decimal n) ((48 + n) ∷ []) (decimal_digit n below)
          ∙ ap₂ (λ (v u : List ℕ). v ++ u) zeros (ap (λ (d : ℕ). d ∷ []) last)
          ∙ ap (λ (v : List ℕ). v ++ (48 + n % 10) ∷ []) (sym front)
      | inr above ↦
          let tens : List ℕ = decimal (n / 10) in
          let last : List ℕ = (48 + n % 10) ∷ [] in
          let more : decimal n ≡ tens ++ last = decimal_step n above (omega arith) in
          let long : w + 1 - length (tens ++ last) ≡ w - length tens = omega (arith, length-append tens last) in
          filled (w + 1) (decimal n) (tens ++ last) more
          ∙ ap (λ (k : ℕ). replicate k 48 ++ (tens ++ last)) long
          ∙ sym (append_assoc (replicate (w - length tens) 48) tens last)
    ]

-- two more digits at the end
two_more : (w w1 w2 n : ℕ) → w1 ≡ w + 1 → w2 ≡ w1 + 1 → 0 < w → n < 1_000_000_000 → zero_filled w2 n ≡ zero_filled w (n / 100) ++ two_digits (n % 100)
two_more w w1 w2 n e f some high =
    let tens : n / 10 / 10 ≡ n / 100 = omega arith in
    let both : ◌≡◌ {A = List ℕ} ((48 + n / 10 % 10) ∷ (48 + n % 10) ∷ []) ((48 + n % 100 / 10) ∷ (48 + n % 100 % 10) ∷ []) =
    pair (48 + n / 10 % 10) (48 + n % 10) (48 + n % 100 / 10) (48 + n % 100 % 10) (omega arith) (omega arith) in
    ap (λ (k : ℕ). zero_filled k n) f
    ∙ digit_more w1 n (omega arith) high
    ∙ ap (λ (v : List ℕ). v ++ (48 + n % 10) ∷ []) (ap (λ (k : ℕ). zero_filled k (n / 10)) e ∙ digit_more w (n / 10) some (omega arith))
    ∙ append_assoc (zero_filled w (n / 10 / 10)) ((48 + n / 10 % 10) ∷ []) ((48 + n % 10) ∷ [])
    ∙ ap₂ (λ (v u : List ℕ). v ++ u) (ap (zero_filled w) tens) (both ∙ sym (two (n % 100) (omega arith)))

-- the characters of nine places
pub nine_of : (n n1 n2 n3 n4 : ℕ) (a b c d e f g h : ℕ) → n < 1_000_000_000 → n1 ≡ n / 100 → n2 ≡ n1 / 100 → n3 ≡ n2 / 100 → n4 ≡ n3 / 100
    → two_digits (n3 % 100) ≡ a ∷ b ∷ [] → two_digits (n2 % 100) ≡ c ∷ d ∷ [] → two_digits (n1 % 100) ≡ e ∷ f ∷ [] → two_digits (n % 100) ≡ g ∷ h ∷ []
    → codes "." ++ zero_filled 9 n ≡ 46 ∷ (48 + n4) ∷ a ∷ b ∷ c ∷ d ∷ e ∷ f ∷ g ∷ h ∷ []
nine_of n n1 n2 n3 n4 a b c d e f g h high e1 e2 e3 e4 p q r s =
    let low1 : n1 < 10_000_000 = omega arith in
    let low2 : n2 < 100_000 = omega arith in
    let low3 : n3 < 1_000 = omega arith in
    let low4 : n4 < 10 = omega arith in
    let top : zero_filled 1 n4 ≡ (48 + n4) ∷ [] = filled 1 (decimal n4) ((48 + n4) ∷ []) (decimal_digit n4 low4) in
    let three : zero_filled 3 n3 ≡ (48 + n4) ∷ a ∷ b ∷ [] =
    two_more 1 2 3 n3 refl refl (omega arith) (omega arith) ∙ ap₂ (λ (v u : List ℕ). v ++ u) (ap (zero_filled 1) (sym e4) ∙ top) p in
    let five : zero_filled 5 n2 ≡ (48 + n4) ∷ a ∷ b ∷ c ∷ d ∷ [] =
    two_more 3 4 5 n2 refl refl (omega arith) (omega arith) ∙ ap₂ (λ (v u : List ℕ). v ++ u) (ap (zero_filled 3) (sym e3) ∙ three) q in
    let seven : zero_filled 7 n1 ≡ (48 + n4) ∷ a ∷ b ∷ c ∷ d ∷ e ∷ f ∷ [] =
    two_more 5 6 7 n1 refl refl (omega arith) (omega arith) ∙ ap₂ (λ (v u : List ℕ). v ++ u) (ap (zero_filled 5) (sym e2) ∙ five) r in
    ap (λ (v : List ℕ). 46 ∷ v) (two_more 7 8 9 n refl refl (omega arith) high ∙ ap₂ (λ (v u : List ℕ). v ++ u) (ap (zero_filled 7) (sym e1) ∙ seven) s)

-- the characters of a date
pub date_of : (year month day : List ℕ) (a b c d e f g h : ℕ) → year ≡ a ∷ b ∷ c ∷ d ∷ [] → month ≡ e ∷ f ∷ [] → day ≡ g ∷ h ∷ []
    → year ++ codes "-" ++ month ++ codes "-" ++ day ≡ a ∷ b ∷ c ∷ d ∷ 45 ∷ e ∷ f ∷ 45 ∷ g ∷ h ∷ []
date_of year month day a b c d e f g h p q r = rw (p, q, r) refl

-- and of a time
pub time_of : (hour minute second : List ℕ) (a b c d e f : ℕ) → hour ≡ a ∷ b ∷ [] → minute ≡ c ∷ d ∷ [] → second ≡ e ∷ f ∷ []
    → (hour ++ codes ":" ++ minute) ++ codes ":" ++ second ≡ a ∷ b ∷ 58 ∷ c ∷ d ∷ 58 ∷ e ∷ f ∷ []
time_of hour minute second a b c d e f p q r = rw (p, q, r) refl
