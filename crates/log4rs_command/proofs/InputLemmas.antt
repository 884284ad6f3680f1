-- Lines, taken one by one.
use Rattle.std.proofs.Common.{◌≡◌, ◌≢◌, ℕ, ◌+◌, ◌-◌, ◌<◌, Bool, true, false, cond, ◌==◌, ◌⊎◌, inl, inr, List, [], ◌∷◌, ◌++◌, length, get_or, take, All, Option, Some, None, IfSome, refl, sym, ap, subst, ◌∙◌, arith, length-append}
use Rattle.std.specs.List.{onto_first}
use Rattle.std.specs.Io.BufRead.{take_through, drop_through, DropsThrough}
use Rattle.std.proofs.lemmas.Bool.{eqb-true, eq-eqb}
use Rattle.std.proofs.lemmas.List.{take_at}
use Rattle.std.proofs.lemmas.List.Elements.{All-nil, All-cons}
use Rattle.std.proofs.Math.Seq.{get_or-append_seam}
use Rattle.log4rs_command.specs.Input.{lines_of, line_feed, Takes}
use Rattle.log4rs_command.proofs.Splits.{IsNot}

-- the first line
abbrev first_line : List ℕ → List ℕ
first_line [] = []
first_line (x ∷ xs) = cond (x == line_feed) [] (x ∷ first_line xs)

first_by_test : (x : ℕ) (xs : List ℕ) (test : Bool) → onto_first x (lines_of xs) ≡ (x ∷ first_line xs) ∷ lines_of (drop_through line_feed xs)
    → cond test ([] ∷ lines_of xs) (onto_first x (lines_of xs)) ≡ cond test [] (x ∷ first_line xs) ∷ lines_of (cond test xs (drop_through line_feed xs))
first_by_test x xs true h = refl
first_by_test x xs false h = h

lines_of-first : (x : ℕ) (xs : List ℕ) → lines_of (x ∷ xs) ≡ first_line (x ∷ xs) ∷ lines_of (drop_through line_feed (x ∷ xs))
lines_of-first x [] = first_by_test x [] (x == line_feed) refl
lines_of-first x (y ∷ ys) = first_by_test x (y ∷ ys) (x == line_feed) (ap (λ l. onto_first x l) (lines_of-first y ys))

-- what is taken through the first LF ends in it, or has none
abbrev EndsOrNone : List ℕ → List ℕ → Type 0
EndsOrNone taken line = (taken ≡ line ++ (line_feed ∷ [])) ⊎ ((taken ≡ line) × All (IsNot line_feed) line)

step : (x : ℕ) (xs : List ℕ) (test : Bool) → (test ≡ true → x ≡ line_feed) → (test ≡ false → x ≢ line_feed) → EndsOrNone (take_through line_feed xs) (first_line xs)
    → EndsOrNone (cond test (x ∷ []) (x ∷ take_through line_feed xs)) (cond test [] (x ∷ first_line xs))
step x xs true same other before = inl (ap (λ b. b ∷ []) (same refl))
step x xs false same other (inl e) = inl (ap (λ l. x ∷ l) e)
step x xs false same other (inr e) = inr (ap (λ l. x ∷ l) e.0, All-cons (IsNot line_feed) x (first_line xs) (other refl) e.1)

taken_through : (xs : List ℕ) → EndsOrNone (take_through line_feed xs) (first_line xs)
taken_through [] = inr (refl, All-nil (IsNot line_feed))
taken_through (x ∷ xs) = step x xs (x == line_feed) (eqb-true x line_feed) (λ differs e. let equals = eq-eqb x line_feed e in cc) (taken_through xs)

lines_of-taken : (xs held : List ℕ) → held ≡ take_through line_feed xs → 0 < length held → lines_of xs ≡ first_line xs ∷ lines_of (drop_through line_feed xs)
lines_of-taken [] held e some = absurd (omega (arith, ap length e))
lines_of-taken (x ∷ xs) held e some = lines_of-first x xs

module _ (held : List ℕ) (n b : ℕ) (long : length held ≡ n) (last : b ≡ get_or held (n - 1) b) where
  stripped : (line : List ℕ) → EndsOrNone held line → n ≢ 0 → b ≡ line_feed → line ≡ take (n - 1) held
  stripped line (inl e) some is =
      let longer : length held ≡ length line + 1 = ap length e ∙ length-append line (line_feed ∷ []) in
      let front : length line ≡ n - 1 = omega arith in
      sym (take_at line (line_feed ∷ []) (n - 1) front) ∙ ap (λ l. take (n - 1) l) (sym e)
  stripped line (inr e) some is =
      let none : All (IsNot line_feed) held = subst (λ l. All (IsNot line_feed) l) (sym e.0) e.1 in
      absurd (none (n - 1) b (omega arith) (sym last ∙ is))

  whole : (line : List ℕ) → EndsOrNone held line → b ≢ line_feed → line ≡ held
  whole line (inl e) other =
      let longer : length held ≡ length line + 1 = ap length e ∙ length-append line (line_feed ∷ []) in
      let seam : n - 1 ≡ length line = omega arith in
      absurd (other (last ∙ ap (λ l. get_or l (n - 1) b) e ∙ ap (λ k. get_or (line ++ (line_feed ∷ [])) k b) seam ∙ get_or-append_seam line line_feed [] b))
  whole line (inr e) other = sym e.0

  -- a line up to its LF was taken
  pub Takes-stripped : (old new : Option (List ℕ)) (empty line : List ℕ) → empty ≡ [] → IfSome old (λ xs. held ≡ empty ++ take_through line_feed xs)
      → DropsThrough old new line_feed → n ≢ 0 → b ≡ line_feed → line ≡ take (n - 1) held → Takes old new (line ∷ [])
  Takes-stripped None new empty line none is drops some end cut = tt
  Takes-stripped (Some xs) new empty line none is drops some end cut =
      let taken : held ≡ take_through line_feed xs = is ∙ ap (λ l. l ++ take_through line_feed xs) none in
      let ends : EndsOrNone held (first_line xs) = subst (λ l. EndsOrNone l (first_line xs)) (sym taken) (taken_through xs) in (
        drop_through line_feed xs,
        drops,
        lines_of-taken xs held taken (omega arith) ∙ ap (λ l. l ∷ lines_of (drop_through line_feed xs)) (stripped (first_line xs) ends some end ∙ sym cut),
      )

  -- a last line without LF was taken
  pub Takes-whole : (old new : Option (List ℕ)) (empty : List ℕ) → empty ≡ [] → IfSome old (λ xs. held ≡ empty ++ take_through line_feed xs)
      → DropsThrough old new line_feed → n ≢ 0 → b ≢ line_feed → Takes old new (held ∷ [])
  Takes-whole None new empty none is drops some other = tt
  Takes-whole (Some xs) new empty none is drops some other =
      let taken : held ≡ take_through line_feed xs = is ∙ ap (λ l. l ++ take_through line_feed xs) none in
      let ends : EndsOrNone held (first_line xs) = subst (λ l. EndsOrNone l (first_line xs)) (sym taken) (taken_through xs) in
      (drop_through line_feed xs, drops, lines_of-taken xs held taken (omega arith) ∙ ap (λ l. l ∷ lines_of (drop_through line_feed xs)) (whole (first_line xs) ends other))
