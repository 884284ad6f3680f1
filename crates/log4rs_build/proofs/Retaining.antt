-- What a test leaves of a list.
use Rattle.std.proofs.Common.{◌≡◌, ◌<◌, ◌⊎◌, ◌↔◌, inl, inr, ℕ, zero, suc, List, [], ◌∷◌, Bool, true, false, Contains, length, get_or, refl, sym, subst, arith}
use Rattle.std.specs.List.{items_where_true}
use Rattle.std.specs.List.Retain.{IsFiltered, ReturnsInTurn}

module _ {X : Type 0} where
  there : (x : X) (xs : List X) (y : X) → Contains xs y → Contains (x ∷ xs) y
  there x xs y c = (suc c.0, omega (arith, c.1), c.2)

  first_or_later : (x : X) (xs : List X) (y : X) (k : ℕ) → k < length (x ∷ xs) → get_or (x ∷ xs) k y ≡ y → (x ≡ y) ⊎ Contains xs y
  first_or_later x xs y zero within at = inl at
  first_or_later x xs y (suc k) within at = inr (k, omega (arith, within), at)

  none : (y : X) → ¬ Contains [] y
  none y c = absurd (omega (arith, c.1))

module _ {X F : Type 0} (R : F → X → Bool → F → Type 0) (Q : X → Type 0) (f : F) (gone : (x : X) (b : Bool) (f' : F) → R f x b f' → (b ≡ true → ¬ Q x) × (b ≡ false → Q x) × (f' ≡ f)) where
  stayed : (q : F) (bs : List Bool) (xs : List X) → length bs ≡ length xs → ReturnsInTurn R f bs xs q → (y : X) → Contains (items_where_true bs xs) y → Contains xs y × ¬ Q y
  stayed q [] [] e h y c = absurd (none y c)
  stayed q [] (x ∷ xs) e h y c = absurd (omega (arith, e))
  stayed q (b ∷ bs) [] e h y c = absurd (omega (arith, e))
  stayed q (true ∷ bs) (x ∷ xs) e h y c =
      let g = gone x true h.0 h.1 in
      let told : ReturnsInTurn R f bs xs q = subst (λ j. ReturnsInTurn R j bs xs q) g.2 h.2 in
      let P : X → Type 0 = λ z. Contains (x ∷ xs) z × ¬ Q z in
      elim (first_or_later x (items_where_true bs xs) y c.0 c.1 c.2) [
        | inl is ↦ subst P is ((zero, omega arith, refl), g.0 refl)
        | inr later ↦ let rest = stayed q bs xs (omega (arith, e)) told y later in (there x xs y rest.0, rest.1)
      ]
  stayed q (false ∷ bs) (x ∷ xs) e h y c =
      let g = gone x false h.0 h.1 in
      let told : ReturnsInTurn R f bs xs q = subst (λ j. ReturnsInTurn R j bs xs q) g.2 h.2 in
      let rest = stayed q bs xs (omega (arith, e)) told y c in (there x xs y rest.0, rest.1)

  stays : (q : F) (bs : List Bool) (xs : List X) → length bs ≡ length xs → ReturnsInTurn R f bs xs q → (y : X) → Contains xs y → ¬ Q y → Contains (items_where_true bs xs) y
  stays q [] [] e h y c fails = absurd (none y c)
  stays q [] (x ∷ xs) e h y c fails = absurd (omega (arith, e))
  stays q (b ∷ bs) [] e h y c fails = absurd (omega (arith, e))
  stays q (true ∷ bs) (x ∷ xs) e h y c fails =
      let g = gone x true h.0 h.1 in
      let told : ReturnsInTurn R f bs xs q = subst (λ j. ReturnsInTurn R j bs xs q) g.2 h.2 in
      let P : X → Type 0 = λ z. Contains (x ∷ items_where_true bs xs) z in
      elim (first_or_later x xs y c.0 c.1 c.2) [
        | inl is ↦ subst P is (zero, omega arith, refl)
        | inr later ↦ there x (items_where_true bs xs) y (stays q bs xs (omega (arith, e)) told y later fails)
      ]
  stays q (false ∷ bs) (x ∷ xs) e h y c fails =
      let g = gone x false h.0 h.1 in
      let told : ReturnsInTurn R f bs xs q = subst (λ j. ReturnsInTurn R j bs xs q) g.2 h.2 in
      elim (first_or_later x xs y c.0 c.1 c.2) [
        | inl is ↦ absurd (fails (subst Q is (g.1 refl)))
        | inr later ↦ stays q bs xs (omega (arith, e)) told y later fails
      ]

  -- what is left has what was there of which the test says that it stays, and nothing else
  pub left_exactly : (xs ys : List X) → IsFiltered R f xs ys → (y : X) → Contains ys y ↔ (Contains xs y × ¬ Q y)
  left_exactly xs ys h y =
      let P : List X → Type 0 = λ l. Contains l y ↔ (Contains xs y × ¬ Q y) in
      subst P (sym h.4) (λ c. stayed h.1 h.0 xs h.2 h.3 y c, λ both. stays h.1 h.0 xs h.2 h.3 y both.0 both.1)
