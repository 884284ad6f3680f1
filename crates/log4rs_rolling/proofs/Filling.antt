-- Patterns, and what stands in place of their placeholders.
use Rattle.std.proofs.Common.{◌≡◌, ◌≢◌, ◌∙◌, ◌≤◌, ◌<◌, ◌+◌, ◌++◌, ℕ, zero, suc, List, [], ◌∷◌, length, take, drop, Bool, true, false, ◌||◌, Some, refl, sym, ap, subst, arith, inl, inr, ◌↔◌, Bor}
use Rattle.std.proofs.lemmas.Bool.{cases_Bool, true≢false}
use Rattle.std.proofs.lemmas.Bool.Decides.{Decides-eqb}
use Rattle.std.proofs.lemmas.Slice.Eq.{starts_is}
use Rattle.std.proofs.lemmas.List.{length-take, take-append-drop}
use Rattle.std.specs.Str.Iter.{HasSubslice}
use Rattle.std.specs.Str.Pattern.{FindsText, LacksTextAt}
use Rattle.std.specs.Str.Replace.{ReplacesMatches}
use Rattle.log4rs_rolling.specs.Archives.{placeholder, is_opened, filled_from, filled, has_placeholder}

not_opened : (text : List ℕ) → ((rest : List ℕ) → text ≢ placeholder ++ rest) → is_opened text ≡ false
not_opened text lacks =
    elim (cases_Bool (is_opened text)) [
      | inl begins ↦ absurd (lacks _ ((starts_is Decides-eqb text placeholder _ refl).0 begins))
      | inr other ↦ other
    ]

one_byte : (text : List ℕ) (b : ℕ) (rest : List ℕ) → is_opened (b ∷ rest) ≡ false → filled_from text 0 (b ∷ rest) ≡ b ∷ filled_from text 0 rest
unfolding filled_from
one_byte text b rest other = rw other refl

nothing : (text : List ℕ) → filled_from text 0 [] ≡ []
unfolding filled_from
nothing text = refl

-- a pattern without a placeholder stays
pub filled-plain : (text pattern : List ℕ) → ((i : ℕ) → i ≤ length pattern → LacksTextAt placeholder pattern i) → filled text pattern ≡ pattern
filled-plain text [] lacks = nothing text
filled-plain text (b ∷ rest) lacks =
    one_byte text b rest (not_opened (b ∷ rest) (lacks 0 (omega arith)))
    ∙ ap (λ l. b ∷ l) (filled-plain text rest (λ i h. lacks (suc i) (omega (arith, h))))

-- and so does what stands before the first one
filled-before : (text front rest : List ℕ) → ((i : ℕ) → i < length front → LacksTextAt placeholder (front ++ rest) i)
    → filled text (front ++ rest) ≡ front ++ filled text rest
filled-before text [] rest lacks = refl
filled-before text (b ∷ front) rest lacks =
    one_byte text b (front ++ rest) (not_opened (b ∷ (front ++ rest)) (lacks 0 (omega arith)))
    ∙ ap (λ l. b ∷ l) (filled-before text front rest (λ i h. lacks (suc i) (omega (arith, h))))

-- a placeholder is replaced
filled-here : (text rest : List ℕ) → filled text (placeholder ++ rest) ≡ text ++ filled text rest
unfolding filled_from
filled-here text rest = refl

pub has-from : (pattern : List ℕ) → has_placeholder pattern ≡ true → HasSubslice pattern placeholder
has-from [] none = absurd (true≢false (sym none))
has-from (b ∷ rest) has =
    elim (cases_Bool (is_opened (b ∷ rest))) [
      | inl begins ↦ ([], _, (starts_is Decides-eqb (b ∷ rest) placeholder _ refl).0 begins)
      | inr other ↦
          let later = has-from rest (rw other at has) in
          (b ∷ later.0, later.1, ap (λ l. b ∷ l) later.2)
    ]

or_true : (x y : Bool) → y ≡ true → (x || y) ≡ true
or_true true y e = refl
or_true false y e = e

has_behind : (front rest : List ℕ) → has_placeholder (front ++ (placeholder ++ rest)) ≡ true
has_behind [] rest = refl
has_behind (b ∷ front) rest = or_true _ _ (has_behind front rest)

same_tests : (r s : Bool) → (r ≡ true → s ≡ true) → (s ≡ true → r ≡ true) → r ≡ s
same_tests true s f g = sym (f refl)
same_tests false true f g = g refl
same_tests false false f g = refl

-- a test for a slice is the test for a placeholder
pub has_slice : (r : Bool) (pattern : List ℕ) → (r ≡ true) ↔ HasSubslice pattern placeholder → r ≡ has_placeholder pattern
has_slice r pattern test =
    same_tests r (has_placeholder pattern)
    (λ yes. let at = test.0 yes in subst (λ p. has_placeholder p ≡ true) (sym at.2) (has_behind at.0 at.1))
    (λ has. test.1 (has-from pattern has))

-- what a replacement of each placeholder makes
pub replaced : (to : List ℕ) (n : ℕ) (p : Bor (List ℕ)) (s out : List ℕ) → p.now ≡ placeholder
    → ReplacesMatches {P = Bor (List ℕ)} (λ n. FindsText n.now) (λ n m. m.now ≡ n.now) to n p s out → out ≡ filled to s
replaced to zero p s out is found =
    found.1 ∙ sym (filled-plain to s (subst (λ t. (i : ℕ) → i ≤ length s → LacksTextAt t s i) is found.0))
replaced to (suc n) p s out is at =
    let here = subst (λ t. FindsText t s (Some (at.0, at.1))) is at.4 in
    let whole : s ≡ take at.0 s ++ (placeholder ++ drop at.1 s) =
    sym (take-append-drop at.0 s) ∙ ap (λ l. take at.0 s ++ l) here.1.split in
    let step : filled to s ≡ take at.0 s ++ (to ++ filled to (drop at.1 s)) =
    ap (filled to) whole
    ∙ filled-before to (take at.0 s) (placeholder ++ drop at.1 s)
    (λ i h. subst (λ t. LacksTextAt placeholder t i) whole (here.0 i (omega (arith, h, length-take at.0 s))))
    ∙ ap (λ l. take at.0 s ++ l) (filled-here to (drop at.1 s)) in
    let ends : at.1 ≡ at.0 + 2 = here.1.ends in
    elim at.6 [
      | inl behind ↦ at.7 ∙ ap (λ l. take at.0 s ++ (to ++ l)) (replaced to n at.2 (drop at.1 s) at.3 (at.5 ∙ is) behind.1) ∙ sym step
      | inr empty ↦ absurd (omega (arith, ends, empty.0))
    ]
