-- Which names are known.
use Rattle.std.proofs.Common.{◌≡◌, sym, ℕ, Bool, true, false, ◌||◌, List, [], ◌∷◌, ◌++◌, map, Ok, Err, string_bytes, refl, ap, inl, inr}
use Rattle.std.proofs.lemmas.Bool.{cases_Bool, false≢true}
use Rattle.std.specs.List.{list_any}
use Rattle.std.specs.Result.{is_ok}
use Rattle.std.specs.Borrow.{Bor}
use Rattle.std.specs.Str.{bytes_eq}
use Rattle.log4rs_settings.specs.Reading.{bytes_now}
use Rattle.log4rs_settings.specs.View.{members_view}
use Rattle.log4rs_settings.proofs.Trees.{Entry}
use Rattle.log4rs_settings.specs.Fault.{unknown_field}
use Rattle.log4rs_settings.specs.Fields.{only_known, is_among}

pub list_any-map : {A B : Type 0} (p : B → Bool) (f : A → B) (xs : List A) → list_any p (map f xs) ≡ list_any (λ x. p (f x)) xs
list_any-map p f [] = refl
list_any-map p f (x ∷ xs) = ap (λ b. p (f x) || b) (list_any-map p f xs)

pub only_known-last : (names : List (List ℕ)) (done : List Entry) (e : Entry) → only_known names (members_view done) ≡ Ok tt → is_among (string_bytes e.0) names ≡ true
    → only_known names (members_view (done ++ e ∷ [])) ≡ Ok tt
only_known-last names [] e h here = rw here
only_known-last names (x ∷ done) e h here =
    elim (cases_Bool (is_among (string_bytes x.0) names)) [
      | inl known ↦ rw known (only_known-last names done e (rw known at h) here)
      | inr other ↦ absurd (false≢true (ap is_ok (rw other at h)))
    ]

pub only_known-refused : (names : List (List ℕ)) (done : List Entry) (e : Entry) (rest : List Entry) → only_known names (members_view done) ≡ Ok tt → is_among (string_bytes e.0) names ≡ false
    → only_known names (members_view (done ++ e ∷ rest)) ≡ Err (unknown_field (string_bytes e.0))
only_known-refused names [] e rest h here = rw here
only_known-refused names (x ∷ done) e rest h here =
    elim (cases_Bool (is_among (string_bytes x.0) names)) [
      | inl known ↦ rw known (only_known-refused names done e rest (rw known at h) here)
      | inr other ↦ absurd (false≢true (ap is_ok (rw other at h)))
    ]

-- what `is_known` answers
pub is_among-now : (key : List ℕ) (known : List (Bor (List ℕ))) → list_any (λ name. bytes_eq name.now key) known ≡ is_among key (map bytes_now known)
is_among-now key known = sym (list_any-map (λ name. bytes_eq name key) bytes_now known)
