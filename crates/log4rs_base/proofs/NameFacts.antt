-- Steps through a path with names of the environment.
use Rattle.std.proofs.Common.{◌≡◌, ◌≢◌, ◌∙◌, ◌+◌, ◌<◌, ◌≤◌, ◌++◌, ℕ, zero, suc, List, [], ◌∷◌, length, drop, get_or, Some, None, Bor, refl, sym, ap, subst, arith, inl, inr, append_assoc}
use Rattle.std.proofs.lemmas.Bool.{cases_Bool, true≢false}
use Rattle.std.proofs.lemmas.List.{length-take}
use Rattle.std.proofs.lemmas.Str.Pattern.{split_text_parts}
use Rattle.std.specs.List.{list_any, before_first, after_first, position_or_len}
use Rattle.std.specs.Option.{is_some}
use Rattle.std.specs.Str.Pattern.{LacksTextAt}
use Rattle.log4rs_base.specs.Placeholder.{Values, closes, until_brace, enclosed, env_opening}
use Rattle.log4rs_base.specs.Names.{names_from, value_until_brace, left_of_name}
use Rattle.log4rs_base.proofs.Placeholders.{IsOpened, enclosed-lacks, list_any-within}

-- a text that grew twice
pub grown_twice : (a b d more text : List ℕ) → text ≡ (a ++ b) ++ d → a ++ (b ++ (d ++ more)) ≡ text ++ more
grown_twice a b d more text e = rw e (sym (append_assoc a b (d ++ more)) ∙ sym (append_assoc (a ++ b) d more))

module _ (value : Values) where
  -- bytes that are read already are passed over
  names_from-drop : (taken : ℕ) (path : List ℕ) → names_from value taken path ≡ names_from value 0 (drop taken path)
  unfolding names_from
  names_from-drop zero path = refl
  names_from-drop (suc taken) [] = refl
  names_from-drop (suc taken) (b ∷ rest) = names_from-drop taken rest

  -- a byte at which no name is opened stays
  one_byte : (b : ℕ) (rest : List ℕ) → enclosed env_opening (b ∷ rest) ≡ None → names_from value 0 (b ∷ rest) ≡ b ∷ names_from value 0 rest
  unfolding names_from
  one_byte b rest none = rw none refl

  nothing : names_from value 0 [] ≡ []
  unfolding names_from
  nothing = refl

  -- a path with no opening stays
  pub names_from-plain : (path : List ℕ) → ((i : ℕ) → i ≤ length path → LacksTextAt env_opening path i) → names_from value 0 path ≡ path
  names_from-plain [] lacks = nothing
  names_from-plain (b ∷ rest) lacks =
      one_byte b rest (enclosed-lacks env_opening (b ∷ rest) (lacks 0 (omega arith)))
      ∙ ap (λ l. b ∷ l) (names_from-plain rest (λ i h. lacks (suc i) (omega (arith, h))))

  -- and so does what stands before the first one
  names_from-before : (front rest : List ℕ) → ((i : ℕ) → i < length front → LacksTextAt env_opening (front ++ rest) i)
      → names_from value 0 (front ++ rest) ≡ front ++ names_from value 0 rest
  names_from-before [] rest lacks = refl
  names_from-before (b ∷ front) rest lacks =
      one_byte b (front ++ rest) (enclosed-lacks env_opening (b ∷ (front ++ rest)) (lacks 0 (omega arith)))
      ∙ ap (λ l. b ∷ l) (names_from-before front rest (λ i h. lacks (suc i) (omega (arith, h))))

  other_byte : (b : ℕ) (rest : List ℕ) → b ≢ 36 → names_from value 0 (b ∷ rest) ≡ b ∷ names_from value 0 rest
  other_byte b rest other = one_byte b rest (enclosed-lacks env_opening (b ∷ rest) (λ more e. other (ap (λ l. get_or l 0 0) e)))

  four_bytes : (opened : List ℕ) → names_from value 0 (69 ∷ 78 ∷ 86 ∷ 123 ∷ opened) ≡ 69 ∷ 78 ∷ 86 ∷ 123 ∷ names_from value 0 opened
  four_bytes opened =
      other_byte 69 (78 ∷ 86 ∷ 123 ∷ opened) (λ e. absurd (omega (arith, e)))
      ∙ ap (λ l. 69 ∷ l) (other_byte 78 (86 ∷ 123 ∷ opened) (λ e. absurd (omega (arith, e)))
      ∙ ap (λ l. 78 ∷ l) (other_byte 86 (123 ∷ opened) (λ e. absurd (omega (arith, e)))
      ∙ ap (λ l. 86 ∷ l) (other_byte 123 opened (λ e. absurd (omega (arith, e))))))

  behind_name : (opened : List ℕ) → position_or_len closes opened < length opened
      → drop (left_of_name (before_first closes opened)) (69 ∷ 78 ∷ 86 ∷ 123 ∷ opened) ≡ after_first closes opened
  behind_name opened within =
      let long : length (before_first closes opened) ≡ position_or_len closes opened =
      omega (arith, length-take (position_or_len closes opened) opened, within) in
      let more : length (before_first closes opened) + 5 ≡ suc (suc (suc (suc (position_or_len closes opened + 1)))) = omega (arith, long) in
      rw more refl

  replaced : (name opened text : List ℕ) → until_brace opened ≡ Some name → value name ≡ Some text
      → names_from value 0 (env_opening ++ opened) ≡ text ++ names_from value (left_of_name name) (69 ∷ 78 ∷ 86 ∷ 123 ∷ opened)
  unfolding names_from
  replaced name opened text here found = rw (here, found) refl

  stays : (name opened : List ℕ) → until_brace opened ≡ Some name → value name ≡ None
      → names_from value 0 (env_opening ++ opened) ≡ 36 ∷ names_from value 0 (69 ∷ 78 ∷ 86 ∷ 123 ∷ opened)
  unfolding names_from
  stays name opened here lacks = rw (here, lacks) refl

  -- a name that has a value
  pub names_from-known : (opened text : List ℕ) → value_until_brace value opened ≡ Some text
      → names_from value 0 (env_opening ++ opened) ≡ text ++ names_from value 0 (after_first closes opened)
  names_from-known opened text found =
      elim (cases_Bool (list_any closes opened)) [
        | inl closed ↦
            let name = before_first closes opened in
            let here : until_brace opened ≡ Some name = rw closed refl in
            replaced name opened text here (rw here at found)
            ∙ ap (λ l. text ++ l)
            (names_from-drop (left_of_name name) (69 ∷ 78 ∷ 86 ∷ 123 ∷ opened)
            ∙ ap (names_from value 0) (behind_name opened (list_any-within opened closed)))
        | inr open_on ↦
            let none : value_until_brace value opened ≡ None = rw open_on refl in
            absurd (true≢false (ap is_some (sym found ∙ none)))
      ]

  -- and one that has none, or is not closed
  pub names_from-unknown : (opened : List ℕ) → value_until_brace value opened ≡ None
      → names_from value 0 (env_opening ++ opened) ≡ env_opening ++ names_from value 0 opened
  names_from-unknown opened lacks =
      elim (cases_Bool (list_any closes opened)) [
        | inl closed ↦
            let here : until_brace opened ≡ Some (before_first closes opened) = rw closed refl in
            stays (before_first closes opened) opened here (rw here at lacks) ∙ ap (λ l. 36 ∷ l) (four_bytes opened)
        | inr open_on ↦ one_byte 36 (69 ∷ 78 ∷ 86 ∷ 123 ∷ opened) (rw open_on refl) ∙ ap (λ l. 36 ∷ l) (four_bytes opened)
      ]

  -- a path up to the first opening
  pub names_from-split : (path : List ℕ) (x : Bor (List ℕ) × Bor (List ℕ))
      → IsOpened env_opening path x
      → names_from value 0 path ≡ x.0.now ++ names_from value 0 (env_opening ++ x.1.now)
  names_from-split path x at =
      let whole : path ≡ x.0.now ++ (env_opening ++ x.1.now) = split_text_parts env_opening path (Some x) at in
      ap (names_from value 0) whole
      ∙ names_from-before x.0.now (env_opening ++ x.1.now) (λ i h. subst (λ t. LacksTextAt env_opening t i) whole (at.2.0 i (omega (arith, h, at.6))))
