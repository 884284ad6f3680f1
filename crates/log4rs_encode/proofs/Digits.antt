-- The number that a run of digits writes is what `parse` reads.
use Rattle.std.proofs.Common.{◌≡◌, ℕ, ◌<◌, ◌≤◌, ◌^◌, true, false, List, [], ◌∷◌, length, encode_utf8_all, refl, sym, ap, ◌∙◌, arith, Result, Ok, Err, Some, None, MatchResult, nat_lt}
use Rattle.std.proofs.lemmas.Bool.Decides.{nat_tests}
use Rattle.std.specs.Char.{is_ascii_digit}
use Rattle.std.specs.Str.{all_ascii_digits}
use Rattle.std.specs.Str.Parse.{ParsesUnsigned}
use Rattle.std.specs.Result.{OkIff}
use Rattle.std.proofs.lemmas.Fmt.{IsAscii-from_digits}
use Rattle.std.proofs.lemmas.Str.{encodes-IsAscii}
use Rattle.std.proofs.lemmas.Str.Parse.{IsNumeralModel, numerals_by_fold, tells_all_ascii_digits, parse_digits}
use Rattle.log4rs_encode.specs.Scan.{leading}
use Rattle.log4rs_encode.specs.Width.{decimal_after, number_of, fits}

own : IsNumeralModel (λ ds. all_ascii_digits ds ≡ true) (decimal_after 0)
own = numerals_by_fold _ tells_all_ascii_digits decimal_after
    (record { empty = λ n. refl; more = λ n c cs h. ap (λ k. decimal_after k cs) (omega arith) })

all_digits-run : (cs : List ℕ) → all_ascii_digits (leading is_ascii_digit cs) ≡ true
all_digits-run [] = refl
all_digits-run (c ∷ cs) = grind (arith, all_digits-run cs)

pub encodes-run : (cs : List ℕ) → encode_utf8_all (leading is_ascii_digit cs) ≡ leading is_ascii_digit cs
encodes-run cs = encodes-IsAscii _ (IsAscii-from_digits _ (own.to _ (all_digits-run cs)))

number_of-cons : (ds : List ℕ) → 0 < length ds → number_of ds ≡ Some (decimal_after 0 ds)
number_of-cons [] h = absurd (omega arith)
number_of-cons (d ∷ ds) h = refl

number_of-nil : (ds : List ℕ) → length ds ≡ 0 → number_of ds ≡ None
number_of-nil [] h = refl
number_of-nil (d ∷ ds) h = absurd (omega arith)

-- the number of the digits fits if `parse` reads it, and else it is too large
abbrev pub Reads : {E : Type 0} → List ℕ → Result ℕ E → Type 0
Reads ds r = MatchResult r (λ n. (number_of ds ≡ Some n) × (nat_lt n (2 ^ 64) ≡ true)) (λ _. fits (number_of ds) ≡ false)

reads : {E : Type 0} (ds : List ℕ) (r : Result ℕ E) → 0 < length ds → OkIff r ((0 < length ds) × (decimal_after 0 ds < 2 ^ 64)) (decimal_after 0 ds) → Reads ds r
reads ds (Ok n) some h = (number_of-cons ds some ∙ ap Some (sym h.1), grind (arith, nat_tests))
reads ds (Err e) some h =
    let large : (decimal_after 0 ds < 2 ^ 64 → ⊥) = λ l. h (some, l) in
    let above : 2 ^ 64 ≤ decimal_after 0 ds = omega (arith, large) in
    rw (number_of-cons ds some) (grind (arith, nat_tests))

pub Reads-parse : {E : Type 0} (cs bs : List ℕ) (r : Result ℕ E) → ParsesUnsigned 64 10 bs r → bs ≡ encode_utf8_all (leading is_ascii_digit cs) → 0 < length bs
    → Reads (leading is_ascii_digit cs) r
Reads-parse cs bs r h e some =
    let text : bs ≡ leading is_ascii_digit cs = e ∙ encodes-run cs in
    reads _ r (rw (← text) some) (parse_digits own 64 _ r (rw text at h) (all_digits-run cs))

pub none-run : (cs bs : List ℕ) → bs ≡ encode_utf8_all (leading is_ascii_digit cs) → length bs ≡ 0 → number_of (leading is_ascii_digit cs) ≡ None
none-run cs bs e empty = rw (← encodes-run cs, ← e) (number_of-nil bs empty)
