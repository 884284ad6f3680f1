-- The sum of the parts of a text, part by part.
use Rattle.std.proofs.Common.{◌≡◌, ℕ, zero, suc, ◌+◌, ◌<◌, ◌≤◌, ◌^◌, List, [], ◌∷◌, length, refl, sym, ap, ◌∙◌, arith, Option, Some, None, option_map}
use Rattle.std.proofs.lemmas.Bool.Decides.{nat_tests}
use Rattle.std.specs.Option.{option_and_then}
use Rattle.std.specs.Str.{IsUtf8}
use Rattle.log4rs_settings.specs.Leading.{after_leading}
use Rattle.log4rs_settings.specs.Number.{if_below}
use Rattle.log4rs_settings.specs.Duration.{part_told, behind_part, with_rest, parts_sum, milliseconds_told}
use Rattle.log4rs_settings.proofs.Runs.{length-after_leading, IsUtf8-after_leading}
use Rattle.log4rs_settings.specs.declared.units.Class.TheVariants.{Digit, Letter, Space}

-- a total and more, if 64 bits hold them
abbrev pub summed : ℕ → Option ℕ → Option ℕ
summed total more = option_and_then (if_below (2 ^ 64)) (option_map (λ n. total + n) more)

summed-zero : (o : Option ℕ) → option_and_then (if_below (2 ^ 64)) o ≡ summed 0 o
summed-zero None = refl
summed-zero (Some n) = ap (if_below (2 ^ 64)) (omega arith)

summed-more : (total part : ℕ) (o : Option ℕ) → summed total (option_map (λ n. part + n) o) ≡ summed (total + part) o
summed-more total part None = refl
summed-more total part (Some n) = ap (if_below (2 ^ 64)) (omega arith)

summed-over : (total part : ℕ) (o : Option ℕ) → 2 ^ 64 ≤ total + part → summed (total + part) o ≡ None
summed-over total part None h = refl
summed-over total part (Some n) h = grind (arith, nat_tests)

-- what a text tells is a total and the sum of the rest
pub record Told (text rest : List ℕ) (total : ℕ) : Type 0 where
  pub bound : ℕ
  pub enough : length rest ≤ bound
  pub same : milliseconds_told text ≡ summed total (parts_sum bound rest)

pub Told-start : (text : List ℕ) → Told text text 0
Told-start text = record { bound = length text; enough = omega arith; same = summed-zero (parts_sum (length text) text) }

no_part : (rest : List ℕ) → length rest ≤ 0 → part_told rest ≡ None
no_part [] h = refl
no_part (b ∷ bs) h = absurd (omega arith)

refused : (bound total : ℕ) (rest : List ℕ) → part_told rest ≡ None → summed total (parts_sum bound rest) ≡ None
refused zero total rest h = refl
refused (suc bound) total rest h = rw h

rest_over : (sum : List ℕ → Option ℕ) (behind : List ℕ) (total part : ℕ) → 2 ^ 64 ≤ total + part → summed total (with_rest sum behind part) ≡ None
rest_over sum [] total part h = grind (arith, nat_tests)
rest_over sum (b ∷ bs) total part h = summed-more total part _ ∙ summed-over total part _ h

rest_empty : (sum : List ℕ → Option ℕ) (behind : List ℕ) (total part : ℕ) → length behind ≡ 0 → total + part < 2 ^ 64 → summed total (with_rest sum behind part) ≡ Some (total + part)
rest_empty sum [] total part h small = grind (arith, nat_tests)
rest_empty sum (b ∷ bs) total part h small = absurd (omega arith)

rest_more : (sum : List ℕ → Option ℕ) (behind : List ℕ) (total part : ℕ) → ¬ (length behind ≡ 0) → summed total (with_rest sum behind part) ≡ summed (total + part) (sum (after_leading Space behind))
rest_more sum [] total part h = absurd (h refl)
rest_more sum (b ∷ bs) total part h = summed-more total part _

-- a text with a part at its front, in words of what follows the part
record Begins (bound : ℕ) (rest : List ℕ) (part : ℕ) : Type 0 where
  less : ℕ
  is_less : bound ≡ suc less
  sum : parts_sum bound rest ≡ with_rest (parts_sum less) (behind_part rest) part

begins : (bound : ℕ) (rest : List ℕ) (part : ℕ) → length rest ≤ bound → part_told rest ≡ Some part → Begins bound rest part
begins zero rest part enough h = absurd (cc (no_part rest enough))
begins (suc bound) rest part enough h = record { less = bound; is_less = refl; sum = rw h refl }

-- a text with something that is no part tells nothing
pub Told-refused : (text rest : List ℕ) (total : ℕ) → Told text rest total → part_told rest ≡ None → milliseconds_told text ≡ None
Told-refused text rest total told h = told.same ∙ refused told.bound total rest h

-- a total that 64 bits do not hold tells nothing
pub Told-over : (text rest : List ℕ) (total part : ℕ) → Told text rest total → part_told rest ≡ Some part → 2 ^ 64 ≤ total + part → milliseconds_told text ≡ None
Told-over text rest total part told h over =
    let b = begins told.bound rest part told.enough h in
    told.same ∙ ap (summed total) b.sum ∙ rest_over (parts_sum b.less) (behind_part rest) total part over

-- behind the last part the total is what the text tells
pub Told-whole : (text rest behind : List ℕ) (total part : ℕ) → Told text rest total → part_told rest ≡ Some part → behind ≡ behind_part rest → length behind ≡ 0 → total + part < 2 ^ 64
    → milliseconds_told text ≡ Some (total + part)
Told-whole text rest behind total part told h e none small =
    let b = begins told.bound rest part told.enough h in
    told.same ∙ ap (summed total) b.sum ∙ rest_empty (parts_sum b.less) (behind_part rest) total part (ap length (sym e) ∙ none) small

-- behind another part the rest begins after spaces
pub Told-more : (text rest behind : List ℕ) (total part : ℕ) → Told text rest total → part_told rest ≡ Some part → behind ≡ behind_part rest → ¬ (length behind ≡ 0) → length behind < length rest
    → Told text (after_leading Space behind) (total + part)
Told-more text rest behind total part told h e some shorter =
    let b = begins told.bound rest part told.enough h in
    record {
      bound = b.less;
      enough = omega (arith, b.is_less, told.enough, length-after_leading Space behind);
      same = told.same ∙ ap (summed total) b.sum ∙ rw (← e) (rest_more (parts_sum b.less) behind total part some);
    }

-- what stands behind a part is a text
pub IsUtf8-behind_part : (text : List ℕ) → IsUtf8 text → IsUtf8 (behind_part text)
IsUtf8-behind_part text utf8 = IsUtf8-after_leading Letter _ (IsUtf8-after_leading Space _ (IsUtf8-after_leading Digit text utf8))
