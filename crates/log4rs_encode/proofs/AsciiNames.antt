-- Pieces of literal patterns: runs of plain characters, and formatters with ASCII names.
use Rattle.std.proofs.Common.{◌≡◌, ℕ, zero, suc, ◌<◌, Bool, true, false, not, ◌&&◌, ◌||◌, ◌==◌, List, [], ◌∷◌, ◌++◌, encode_utf8_all, refl, sym, ap, ◌∙◌, subst, inl, arith}
use Rattle.std.specs.List.{list_all}
use Rattle.std.specs.Char.{is_ascii, is_ascii_alphabetic, is_ascii_alphanumeric}
use Rattle.std.proofs.lemmas.Bool.Decides.{nat_tests}
use Rattle.std.proofs.lemmas.Str.{encode_ascii}
use Rattle.unicode.specs.Binary.{is_alphabetic}
use Rattle.ucd_derived.specs.AlphabeticRanges.{alphabetic_ranges}
use Rattle.ucd_table.specs.Rows.{in_ranges, value_in}
use Rattle.ucd_category.specs.GeneralCategory.{general_category}
use Rattle.ucd_category.specs.GeneralCategoryRows.{general_category_rows}
use Rattle.log4rs_encode.specs.Ascii.{is_ascii_name, ends_name}
use Rattle.log4rs_encode.specs.Syntax.{text, no_lists}
use Rattle.log4rs_encode.specs.Scan.{is_plain, is_alphanumeric, leading, after_leading, begins}
use Rattle.log4rs_encode.specs.Width.{parameters_of}
use Rattle.log4rs_encode.specs.Spelling.{Spells, ListsBelow, front_name, argument_of}

front_passes : (a b : Bool) → (a && b) ≡ true → (a ≡ true) × (b ≡ true)
front_passes true true h = (refl, refl)
front_passes true false h = absurd (cc)
front_passes false b h = absurd (cc)

-- the test passes of all numbers below a bound
abbrev below : (ℕ → Bool) → ℕ → Bool
below test zero = true
below test (suc n) = test n && below test n

below-at : (test : ℕ → Bool) (n c : ℕ) → below test n ≡ true → c < n → test c ≡ true
below-at test zero c h within = absurd (omega arith)
below-at test (suc n) c h within =
    let both = front_passes (test n) (below test n) h in
    by (λ less. below-at test n c both.1 less) both.0 (c == n) refl
  where
    by : (c < n → test c ≡ true) → test n ≡ true → (b : Bool) → (c == n) ≡ b → test c ≡ true
    by more here true e = let same : c ≡ n = grind (arith, nat_tests) in ap test same ∙ here
    by more here false e = let less : c < n = grind (arith, nat_tests) in more less

abbrev letter_test : ℕ → Bool
letter_test c = not (is_ascii_alphabetic c) || is_alphabetic c

abbrev alphanumeric_test : ℕ → Bool
alphanumeric_test c = not (is_ascii_alphanumeric c) || is_alphanumeric c

letters : below letter_test 128 ≡ true
unfolding is_alphabetic alphabetic_ranges in_ranges value_in
letters = refl

alphanumerics : below alphanumeric_test 128 ≡ true
unfolding is_alphanumeric is_alphabetic alphabetic_ranges in_ranges value_in general_category general_category_rows
alphanumerics = refl

colon_ends : is_alphanumeric 58 ≡ false
unfolding is_alphanumeric is_alphabetic alphabetic_ranges in_ranges value_in general_category general_category_rows
colon_ends = refl

brace_ends : is_alphanumeric 125 ≡ false
unfolding is_alphanumeric is_alphabetic alphabetic_ranges in_ranges value_in general_category general_category_rows
brace_ends = refl

run_of-append : (p : ℕ → Bool) (cs rest : List ℕ) → list_all p cs ≡ true → leading p rest ≡ [] → leading p (cs ++ rest) ≡ cs
run_of-append p [] rest all stop = stop
run_of-append p (c ∷ cs) rest all stop =
    let both = front_passes (p c) (list_all p cs) all in
    rw both.0 (ap (λ (x : List ℕ). c ∷ x) (run_of-append p cs rest both.1 stop))

after_leading-stop : (p : ℕ → Bool) (rest : List ℕ) → leading p rest ≡ [] → after_leading p rest ≡ rest
after_leading-stop p [] stop = refl
after_leading-stop p (c ∷ cs) stop = by (p c) refl
  where
    by : (b : Bool) → p c ≡ b → after_leading p (c ∷ cs) ≡ c ∷ cs
    by true e = let more : leading p (c ∷ cs) ≡ c ∷ leading p cs = rw e refl in absurd (cc)
    by false e = rw e refl

after_leading-append : (p : ℕ → Bool) (cs rest : List ℕ) → list_all p cs ≡ true → leading p rest ≡ [] → after_leading p (cs ++ rest) ≡ rest
after_leading-append p [] rest all stop = after_leading-stop p rest stop
after_leading-append p (c ∷ cs) rest all stop =
    let both = front_passes (p c) (list_all p cs) all in
    rw both.0 (after_leading-append p cs rest both.1 stop)

-- the longest run of plain characters is one piece
pub plain_piece : (levels c : ℕ) (cs rest : List ℕ) → list_all is_plain (c ∷ cs) ≡ true → leading is_plain rest ≡ []
    → Spells levels (c ∷ cs ++ rest) (text (encode_utf8_all (c ∷ cs))) rest
plain_piece levels c cs rest all stop =
    let both = front_passes (is_plain c) (list_all is_plain cs) all in
    rw both.0
    (ap (λ (x : List ℕ). text (encode_utf8_all (c ∷ x))) (sym (run_of-append is_plain cs rest both.1 stop)), sym (after_leading-append is_plain cs rest both.1 stop))

letter_below : (c : ℕ) → is_ascii_alphabetic c ≡ true → c < 128
letter_below c is = grind (arith, nat_tests)

alphanumeric_below : (c : ℕ) → is_ascii_alphanumeric c ≡ true → c < 128
alphanumeric_below c is = grind (arith, nat_tests)

letter : (c : ℕ) → is_ascii_alphabetic c ≡ true → is_alphabetic c ≡ true
letter c is =
    let test : (not (is_ascii_alphabetic c) || is_alphabetic c) ≡ true = below-at letter_test 128 c letters (letter_below c is) in
    rw is at test

alphanumeric : (c : ℕ) → is_ascii_alphanumeric c ≡ true → is_alphanumeric c ≡ true
alphanumeric c is =
    let test : (not (is_ascii_alphanumeric c) || is_alphanumeric c) ≡ true = below-at alphanumeric_test 128 c alphanumerics (alphanumeric_below c is) in
    rw is at test

all_alphanumeric : (cs : List ℕ) → list_all is_ascii_alphanumeric cs ≡ true → list_all is_alphanumeric cs ≡ true
all_alphanumeric [] all = refl
all_alphanumeric (c ∷ cs) all =
    let both = front_passes (is_ascii_alphanumeric c) (list_all is_ascii_alphanumeric cs) all in
    rw (alphanumeric c both.0) (all_alphanumeric cs both.1)

-- an ASCII text is its own UTF-8
pub ascii_bytes : (cs : List ℕ) → list_all is_ascii cs ≡ true → encode_utf8_all cs ≡ cs
ascii_bytes [] all = refl
ascii_bytes (c ∷ cs) all =
    let both = front_passes (is_ascii c) (list_all is_ascii cs) all in
    let within : c < 128 = grind (arith, nat_tests, both.0) in
    rw (encode_ascii c within) (ap (λ (x : List ℕ). c ∷ x) (ascii_bytes cs both.1))

encoded : (cs : List ℕ) → list_all is_ascii_alphanumeric cs ≡ true → encode_utf8_all cs ≡ cs
encoded [] all = refl
encoded (c ∷ cs) all =
    let both = front_passes (is_ascii_alphanumeric c) (list_all is_ascii_alphanumeric cs) all in
    rw (encode_ascii c (alphanumeric_below c both.0)) (ap (λ (x : List ℕ). c ∷ x) (encoded cs both.1))

name_stops : (behind : List ℕ) → ends_name behind ≡ true → leading is_alphanumeric behind ≡ []
name_stops [] ends = absurd (cc)
name_stops (d ∷ ds) ends = by (d == 58) refl (d == 125) refl
  where
    by : (a : Bool) → (d == 58) ≡ a → (b : Bool) → (d == 125) ≡ b → leading is_alphanumeric (d ∷ ds) ≡ []
    by true e b f = let is : d ≡ 58 = grind (arith, nat_tests) in let no : is_alphanumeric d ≡ false = ap is_alphanumeric is ∙ colon_ends in rw no refl
    by false e true f = let is : d ≡ 125 = grind (arith, nat_tests) in let no : is_alphanumeric d ≡ false = ap is_alphanumeric is ∙ brace_ends in rw no refl
    by false e false f = let both : (false || false) ≡ true = rw (e, f) at ends in absurd (cc)

no_list_opens : (behind : List ℕ) → ends_name behind ≡ true → begins 40 behind ≡ false
no_list_opens [] ends = refl
no_list_opens (d ∷ ds) ends = grind (arith, nat_tests)

no_lists_here : (levels : ℕ) (behind : List ℕ) → ends_name behind ≡ true → ListsBelow levels behind no_lists behind
unfolding ListsBelow
no_lists_here zero behind ends = (refl, refl, no_list_opens behind ends)
no_lists_here (suc levels) behind ends = (refl, no_list_opens behind ends)

named : (c : ℕ) (cs behind : List ℕ) → is_ascii_name (c ∷ cs) ≡ true → ends_name behind ≡ true → front_name (c ∷ cs ++ behind) ≡ (c ∷ cs, behind)
named c cs behind is ends =
    let both = front_passes (is_ascii_alphabetic c) (list_all is_ascii_alphanumeric cs) is in
    let stop = name_stops behind ends in
    let all = all_alphanumeric cs both.1 in
    let run : leading is_alphanumeric (cs ++ behind) ≡ cs = run_of-append is_alphanumeric cs behind all stop in
    let rest : after_leading is_alphanumeric (cs ++ behind) ≡ behind = after_leading-append is_alphanumeric cs behind all stop in
    let bytes : encode_utf8_all (c ∷ cs) ≡ c ∷ cs = rw (encode_ascii c (letter_below c both.0)) (ap (λ (x : List ℕ). c ∷ x) (encoded cs both.1)) in
    rw (letter c both.0)
    (ap (λ (x : List ℕ). (encode_utf8_all (c ∷ x), after_leading is_alphanumeric (cs ++ behind))) run
    ∙ ap (λ (x : List ℕ). (encode_utf8_all (c ∷ cs), x)) rest ∙ ap (λ (x : List ℕ). (x, behind)) bytes)

not_brace : (c : ℕ) → is_ascii_alphabetic c ≡ true → (c == 123) ≡ false
not_brace c is = grind (arith, nat_tests)

-- a formatter with an ASCII name and no argument lists
pub named_piece : (levels c : ℕ) (cs behind rest : List ℕ) → is_ascii_name (c ∷ cs) ≡ true → ends_name behind ≡ true
    → (parameters_of behind).1 ≡ 125 ∷ rest → Spells levels (123 ∷ c ∷ cs ++ behind) (argument_of (c ∷ cs) no_lists (parameters_of behind).0) rest
named_piece levels c cs behind rest is ends closed =
    let both = front_passes (is_ascii_alphabetic c) (list_all is_ascii_alphanumeric cs) is in
    let name = named c cs behind is ends in
    rw (not_brace c both.0)
    (inl (
      no_lists,
      behind,
      subst (λ (x : List ℕ). ListsBelow levels x no_lists behind) (sym (ap (λ n. n.1) name)) (no_lists_here levels behind ends),
      closed,
      ap (λ n. argument_of n.0 no_lists (parameters_of behind).0) (sym name),
    ))
