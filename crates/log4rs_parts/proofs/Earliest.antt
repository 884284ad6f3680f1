-- The earliest component of an appender.
use Rattle.std.proofs.Common.{nat_lt, inl, inr, ◌∙◌, ◌≡◌, ℕ, zero, suc, ◌<◌, ◌≤◌, true, false, List, [], ◌∷◌, ◌++◌, map, take, drop, get_or, length, Some, None, position, refl, sym, ap, arith}
use Rattle.std.proofs.lemmas.List.Quantifiers.{position-Some}
use Rattle.std.proofs.lemmas.List.Sums.{fails_before_first}
use Rattle.std.proofs.lemmas.Bool.{cases_Bool, ltb-false, true≢false}
use Rattle.std.specs.Option.{is_some}
use Rattle.std.specs.Str.{bytes_eq}
use Rattle.std.specs.List.{position_or_len}
use Rattle.log4rs_parts.specs.NamedParts.{entry, is_for, first_for, without_first, count_for}
use Rattle.log4rs_parts.specs.declared.handed.Named.{Named}

module _ {T : Type 0} where
  none_among : (name : List ℕ) (xs : List (Named T)) (d : Named T) → ((k : ℕ) → k < length xs → is_for name (get_or xs k d) ≡ false)
      → (first_for name (map entry xs) ≡ None) × (without_first name (map entry xs) ≡ map entry xs)
  none_among name [] d others = (refl, refl)
  none_among name (x ∷ xs) d others =
      let here : is_for name x ≡ false = others 0 (omega arith) in
      let rest = none_among name xs d (λ k below. others (suc k) (omega (arith, below))) in
      (rw here rest.0, rw here (ap (λ es. entry x ∷ es) rest.1))

  not_found : (name : List ℕ) (xs : List (Named T)) → position (is_for name) xs ≡ None → length xs ≤ position_or_len (is_for name) xs
  not_found name xs h =
      elim (cases_Bool (nat_lt (position_or_len (is_for name) xs) (length xs))) [
        | inl found ↦ absurd (true≢false (ap is_some (rw found at h)))
        | inr other ↦ ltb-false _ _ other
      ]

  pub nobody : (name : List ℕ) (xs : List (Named T)) → position (is_for name) xs ≡ None
      → (first_for name (map entry xs) ≡ None) × (without_first name (map entry xs) ≡ map entry xs)
  nobody name [] h = (refl, refl)
  nobody name (x ∷ xs) h =
      none_among name (x ∷ xs) x (λ k below. fails_before_first (is_for name) (x ∷ xs) k x (omega (arith, below, not_found name (x ∷ xs) h)))

  at_place : (name : List ℕ) (xs : List (Named T)) (i : ℕ) (v : Named T) → i < length xs → v ≡ get_or xs i v → is_for name v ≡ true → ((k : ℕ) → k < i → is_for name (get_or xs k v) ≡ false)
      → (first_for name (map entry xs) ≡ Some v.part) × (without_first name (map entry xs) ≡ map entry (take i xs ++ drop (suc i) xs))
  at_place name [] i v within is found others = absurd (omega (arith, within))
  at_place name (x ∷ xs) zero v within is found others =
      let here : is_for name x ≡ true = ap (is_for name) (sym is) ∙ found in
      (rw here (ap (λ n. Some n.part) (sym is)), rw here refl)
  at_place name (x ∷ xs) (suc i) v within is found others =
      let here : is_for name x ≡ false = others 0 (omega arith) in
      let rest = at_place name xs i v (omega (arith, within)) is found (λ k below. others (suc k) (omega (arith, below))) in
      (rw here rest.0, rw here (ap (λ es. entry x ∷ es) rest.1))

  pub taken : (name : List ℕ) (xs : List (Named T)) (i : ℕ) (v : Named T) → position (is_for name) xs ≡ Some i → v ≡ get_or xs i v
      → (first_for name (map entry xs) ≡ Some v.part) × (without_first name (map entry xs) ≡ map entry (take i xs ++ drop (suc i) xs))
  taken name xs i v found is =
      let p = position-Some (is_for name) xs i v found in
      at_place name xs i v p.0 is (ap (is_for name) is ∙ p.1) p.2

  pub count-yes : (name : List ℕ) (es : List (List ℕ × T)) (e : List ℕ × T) → bytes_eq e.0 name ≡ true → count_for name (es ++ e ∷ []) ≡ suc (count_for name es)
  count-yes name [] e h = rw h refl
  count-yes name (x ∷ es) e h =
      elim (cases_Bool (bytes_eq x.0 name)) [
        | inl same ↦ rw same (ap suc (count-yes name es e h))
        | inr other ↦ rw other (count-yes name es e h)
      ]

  pub count-no : (name : List ℕ) (es : List (List ℕ × T)) (e : List ℕ × T) → bytes_eq e.0 name ≡ false → count_for name (es ++ e ∷ []) ≡ count_for name es
  count-no name [] e h = rw h refl
  count-no name (x ∷ es) e h =
      elim (cases_Bool (bytes_eq x.0 name)) [
        | inl same ↦ rw same (ap suc (count-no name es e h))
        | inr other ↦ rw other (count-no name es e h)
      ]
