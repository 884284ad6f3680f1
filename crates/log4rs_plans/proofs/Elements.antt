-- Elements of lists that are seen by a function.
use Rattle.std.proofs.Common.{◌≡◌, ◌≢◌, ℕ, ◌<◌, ◌≤◌, List, map, take, length, get_or, refl, sym, subst}
use Rattle.std.specs.Prelude.{All, Contains}
use Rattle.std.proofs.lemmas.List.{take_all, get_or-map, length-map}
use Rattle.std.proofs.lemmas.List.Elements.{All-contains, All-map}

-- the one at a place
pub element_at : {X : Type 0} (xs : List X) (i : ℕ) (x : X) → i < length xs → x ≡ get_or xs i x → Contains xs x
element_at xs i x h at = (i, h, sym at)

module _ {X Y : Type 0} (seen : X → Y) where
  -- what is seen of the one at a place is among what is seen of all
  pub seen_at : (xs : List X) (i : ℕ) (x : X) → i < length xs → x ≡ get_or xs i x → Contains (map seen xs) (seen x)
  seen_at xs i x h at =
      let within : i < length (map seen xs) = rw length-map h in
      (i, within, rw (get_or-map seen xs i x (seen x) h, ← at) refl)

  pub seen_as : (xs : List X) (i : ℕ) (x : X) (y : Y) → i < length xs → x ≡ get_or xs i x → seen x ≡ y → Contains (map seen xs) y
  seen_as xs i x y h at is = let P : Y → Type 0 = λ z. Contains (map seen xs) z in subst P is (seen_at xs i x h at)

  -- what is seen of none is not among what is seen of all
  pub unseen : (xs : List X) (i : ℕ) (y : Y) → length xs ≤ i → All (λ x. seen x ≢ y) (take i xs) → ¬ Contains (map seen xs) y
  unseen xs i y all none c =
      let P : Y → Type 0 = λ z. z ≢ y in
      let Q : X → Type 0 = λ x. seen x ≢ y in
      let differ : All Q xs = subst (λ (l : List X). All Q l) (take_all i xs all) none in
      All-contains P (map seen xs) y (All-map P seen xs differ) c refl

  -- what holds of none that is seen does not hold of one of what is seen
  pub seen_of_none : (P : Y → Type 0) (xs : List X) (i : ℕ) (y : Y) → length xs ≤ i → All (λ x. ¬ P (seen x)) (take i xs) → P y → ¬ Contains (map seen xs) y
  seen_of_none P xs i y all none holds c =
      let Q : X → Type 0 = λ x. ¬ P (seen x) in
      let fails : All Q xs = subst (λ (l : List X). All Q l) (take_all i xs all) none in
      All-contains (λ z. ¬ P z) (map seen xs) y (All-map (λ z. ¬ P z) seen xs fails) c holds
