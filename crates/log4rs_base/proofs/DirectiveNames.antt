-- Steps of the search for the name of a directive.
use denote.Bor.{Bor}
use Rattle.std.proofs.Common.{◌≡◌, ◌≢◌, ◌+◌, ◌-◌, ◌<◌, ◌≤◌, ◌++◌, ℕ, List, length, map, drop, get_or, Bool, true, false, nat_eq, Some, None, refl, ap, arith, add-one, drop-cons, length-append}
use Rattle.std.proofs.Math.ListN.{drop_of_length-le}
use Rattle.std.specs.List.{starts_with}
use Rattle.std.proofs.lemmas.Bool.Decides.{Decides-eqb}
use Rattle.std.proofs.lemmas.Slice.Eq.{starts_is}
use Rattle.log4rs_base.specs.DateFormat.{found_at}
use Rattle.log4rs_base.specs.FoundView.{named_entry}
use Rattle.log4rs_base.specs.declared.dates.directive.Directive.{Directive}

abbrev pub Entry : Type 0
Entry = Bor (List ℕ) × Directive

begins : (p r s : List ℕ) → s ≡ p ++ r → starts_with nat_eq s p ≡ true
begins p r s e = (starts_is Decides-eqb s p (starts_with nat_eq s p) refl).1 r e

begins_not : (p s : List ℕ) → ((rest : List ℕ) → s ≢ p ++ rest) → starts_with nat_eq s p ≡ false
begins_not p s lacks = by_test (starts_with nat_eq s p) (starts_is Decides-eqb s p (starts_with nat_eq s p) refl).0
  where
    by_test : (b : Bool) → (b ≡ true → s ≡ p ++ drop (length p) s) → b ≡ false
    by_test true holds = absurd (lacks (drop (length p) s) (holds refl))
    by_test false holds = refl

-- the name of the entry at i begins the text
pub found_here : (names : List Entry) (i : ℕ) (d : Entry) (text behind : List ℕ) → i < length names → text ≡ (get_or names i d).0.now ++ behind → found_at (map named_entry (drop i names)) text ≡ Some (record { directive = (get_or names i d).1; name_length = length text - length behind })
unfolding found_at
found_here names i d text behind inside e =
    let here = drop-cons names i d inside in
    let taken : length text - length behind ≡ length (get_or names i d).0.now = omega (arith, simp length-append at (ap length e)) in
    rw (here, begins (get_or names i d).0.now behind text e, taken) refl

-- the name of the entry at i does not begin the text
pub found_later : (names : List Entry) (i : ℕ) (d : Entry) (text : List ℕ) → i < length names → ((rest : List ℕ) → text ≢ (get_or names i d).0.now ++ rest) → found_at (map named_entry (drop i names)) text ≡ found_at (map named_entry (drop (i + 1) names)) text
unfolding found_at
found_later names i d text inside lacks =
    rw (add-one, drop-cons names i d inside, begins_not (get_or names i d).0.now text lacks) refl

-- no entry is left
pub found_none : (names : List Entry) (i : ℕ) (text : List ℕ) → length names ≤ i → found_at (map named_entry (drop i names)) text ≡ None
unfolding found_at
found_none names i text past = rw (drop_of_length-le names past) refl
