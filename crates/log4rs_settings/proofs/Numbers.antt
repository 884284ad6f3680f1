-- The number at the front of a text, and what `parse` reads.
use Rattle.std.proofs.Common.{◌≡◌, ℕ, ◌<◌, ◌^◌, true, List, [], ◌∷◌, length, refl, arith, Err, None}
use Rattle.std.proofs.lemmas.Bool.Decides.{nat_tests}
use Rattle.std.proofs.lemmas.List.Sums.{take_while-cons}
use Rattle.std.proofs.lemmas.Str.Parse.{IsNumeralModel, numerals_by_value, tells_all_ascii_digits, parse_digits}
use Rattle.std.specs.Char.{is_ascii_digit}
use Rattle.std.specs.List.{take_while}
use Rattle.std.specs.Str.{all_ascii_digits}
use Rattle.std.specs.Str.Parse.{ParsesUnsigned, digits_value}
use Rattle.log4rs_settings.specs.Leading.{leading}
use Rattle.log4rs_settings.specs.Number.{if_below, value_of, number_told}
use Rattle.log4rs_settings.specs.declared.units.Class.TheVariants.{Digit}

own : IsNumeralModel (λ ds. all_ascii_digits ds ≡ true) (digits_value 10)
own = numerals_by_value _ tells_all_ascii_digits

all_digits : (text : List ℕ) → all_ascii_digits (take_while is_ascii_digit text) ≡ true
all_digits [] = refl
all_digits (b ∷ bs) = rw (take_while-cons is_ascii_digit b bs) (grind (arith, all_digits bs))

if_below-none : (limit n : ℕ) → ¬ (n < limit) → if_below limit n ≡ None
if_below-none limit n h = grind (arith, nat_tests)

value_of-none : (ds : List ℕ) → ¬ ((0 < length ds) × (digits_value 10 ds < 2 ^ 64)) → value_of ds ≡ None
value_of-none [] h = refl
value_of-none (d ∷ ds) h = if_below-none (2 ^ 64) (digits_value 10 (d ∷ ds)) (λ l. h (omega arith, l))

-- where `parse` refuses the digits, they tell no number
pub number_told-none : {E : Type 0} (text : List ℕ) (e : E) → ParsesUnsigned 64 10 (leading Digit text) (Err e) → number_told text ≡ None
number_told-none text e h = value_of-none (leading Digit text) (parse_digits own 64 (leading Digit text) (Err e) h (all_digits text))
