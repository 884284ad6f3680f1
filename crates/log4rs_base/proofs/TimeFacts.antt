-- Steps through a path with times.
use Rattle.std.proofs.Common.{◌≡◌, ◌∙◌, ◌+◌, ◌<◌, ◌++◌, ℕ, zero, suc, List, [], ◌∷◌, length, drop, Some, None, refl, sym, ap, arith, Option, true, false, is_some, unwrap_or}
use Rattle.std.proofs.lemmas.Bool.{true≢false}
use Rattle.std.proofs.Math.Seq.{drop_at}
use Rattle.log4rs_base.specs.Placeholder.{Values, close_brace, enclosed, time_opening}
use Rattle.log4rs_base.specs.Times.{times_from, time_placeholder, left_of_time}
use Rattle.log4rs_base.specs.First.{NeverOpens, IsFirst}

held : (o : Option (List ℕ)) → is_some o ≡ true → (text : List ℕ) × (o ≡ Some text)
held (Some text) some = (text, refl)
held None some = absurd (true≢false (sym some))

not_held : (o : Option (List ℕ)) → is_some o ≡ false → o ≡ None
not_held (Some text) none = absurd (true≢false none)
not_held None none = refl

module _ (date : Values) where
  -- bytes that are read already are passed over
  times_from-drop : (count taken : ℕ) (path : List ℕ) → times_from date count taken path ≡ times_from date count 0 (drop taken path)
  unfolding times_from
  times_from-drop count zero path = refl
  times_from-drop count (suc taken) [] = refl
  times_from-drop count (suc taken) (b ∷ rest) = times_from-drop count taken rest

  -- none is replaced any more
  pub times_from-none : (path : List ℕ) → times_from date 0 0 path ≡ path
  unfolding times_from
  times_from-none [] = refl
  times_from-none (b ∷ rest) = refl

  -- a path with no placeholder stays
  pub times_from-plain : (count : ℕ) (path : List ℕ) → NeverOpens path → times_from date count 0 path ≡ path
  unfolding times_from
  times_from-plain zero path never = times_from-none path
  times_from-plain (suc count) [] never = refl
  times_from-plain (suc count) (b ∷ rest) never =
      rw (never 0 (omega arith)) (ap (λ t. b ∷ t) (times_from-plain (suc count) rest (λ i h. never (suc i) (omega arith))))

  -- and so does what stands before the first one
  times_from-before : (count : ℕ) (front rest : List ℕ)
      → ((i : ℕ) → i < length front → enclosed time_opening (drop i (front ++ rest)) ≡ None)
      → times_from date (suc count) 0 (front ++ rest) ≡ front ++ times_from date (suc count) 0 rest
  unfolding times_from
  times_from-before count [] rest never = refl
  times_from-before count (b ∷ front) rest never =
      rw (never 0 (omega arith)) (ap (λ t. b ∷ t) (times_from-before count front rest (λ i h. never (suc i) (omega arith))))

  drop_past : (format behind : List ℕ) → drop (length format + 1) (format ++ close_brace ∷ behind) ≡ behind
  drop_past [] behind = refl
  drop_past (x ∷ format) behind =
      let next : suc (length format) + 1 ≡ suc (length format + 1) = omega arith in
      rw next (drop_past format behind)

  drop_placeholder : (format behind : List ℕ) → drop (left_of_time format) (84 ∷ 73 ∷ 77 ∷ 69 ∷ 123 ∷ (format ++ close_brace ∷ behind)) ≡ behind
  drop_placeholder format behind =
      let more : length format + 6 ≡ suc (suc (suc (suc (suc (length format + 1))))) = omega arith in
      rw more (drop_past format behind)

  abbrev placeholder_then : List ℕ → List ℕ → List ℕ
  placeholder_then format behind = time_opening ++ (format ++ close_brace ∷ behind)

  -- a placeholder that has a date
  times_from-dated : (count : ℕ) (format behind text : List ℕ) → enclosed time_opening (placeholder_then format behind) ≡ Some format
      → date format ≡ Some text → times_from date (suc count) 0 (placeholder_then format behind) ≡ text ++ times_from date count 0 behind
  unfolding times_from
  times_from-dated count format behind text here found =
      rw (here, found)
      (ap (λ t. text ++ t) (times_from-drop count (left_of_time format) _ ∙ ap (times_from date count 0) (drop_placeholder format behind)))

  -- and one that has none
  times_from-refused : (count : ℕ) (format behind : List ℕ) → enclosed time_opening (placeholder_then format behind) ≡ Some format
      → date format ≡ None
      → times_from date (suc count) 0 (placeholder_then format behind) ≡ time_placeholder format ++ times_from date (suc count) 0 behind
  unfolding times_from
  times_from-refused count format behind here lacks =
      rw (here, lacks)
      (ap (λ t. time_placeholder format ++ t)
      (times_from-drop (suc count) (left_of_time format) _ ∙ ap (times_from date (suc count) 0) (drop_placeholder format behind)))

  within_whole : (count : ℕ) (path before format behind : List ℕ) → IsFirst path before format behind
      → (times_from date (suc count) 0 path ≡ before ++ times_from date (suc count) 0 (placeholder_then format behind))
      × (enclosed time_opening (placeholder_then format behind) ≡ Some format)
  within_whole count path before format behind first = (
    ap (times_from date (suc count) 0) first.whole
        ∙ times_from-before count before (placeholder_then format behind)
        (λ i h. ap (λ t. enclosed time_opening (drop i t)) (sym first.whole) ∙ first.earlier i h),
    ap (enclosed time_opening) (sym (drop_at before (placeholder_then format behind) (length before) refl))
        ∙ ap (λ t. enclosed time_opening (drop (length before) t)) (sym first.whole) ∙ first.here,
  )

  -- what is added for a format
  abbrev pub shown : List ℕ → List ℕ
  shown format = unwrap_or (date format) (time_placeholder format)

  -- the first placeholder of a path, where it has a date
  pub times_from-first_dated : (count : ℕ) (path before format behind : List ℕ)
      → IsFirst path before format behind → is_some (date format) ≡ true
      → times_from date (suc count) 0 path ≡ before ++ (shown format ++ times_from date count 0 behind)
  times_from-first_dated count path before format behind first some =
      let p = within_whole count path before format behind first in
      let found = held (date format) some in
      p.0 ∙ ap (λ t. before ++ t) (times_from-dated count format behind found.0 p.1 found.1)
      ∙ ap (λ o. before ++ (unwrap_or o (time_placeholder format) ++ times_from date count 0 behind)) (sym found.1)

  -- and where it has none
  pub times_from-first_refused : (count : ℕ) (path before format behind : List ℕ)
      → IsFirst path before format behind → is_some (date format) ≡ false
      → times_from date (suc count) 0 path ≡ before ++ (shown format ++ times_from date (suc count) 0 behind)
  times_from-first_refused count path before format behind first none =
      let p = within_whole count path before format behind first in
      let lacks = not_held (date format) none in
      p.0 ∙ ap (λ t. before ++ t) (times_from-refused count format behind p.1 lacks)
      ∙ ap (λ o. before ++ (unwrap_or o (time_placeholder format) ++ times_from date (suc count) 0 behind)) (sym lacks)
