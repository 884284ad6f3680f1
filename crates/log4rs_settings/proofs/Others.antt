-- Members of other keys than one that is taken out.
use Rattle.std.proofs.Common.{◌≡◌, ℕ, List, Option, Some, Ordering, Less, Equal, Greater, true, false, codes, refl, sym, ap, ◌∙◌, inl, inr}
use Rattle.std.proofs.lemmas.Bool.{cases_Bool, false≢true}
use Rattle.std.proofs.lemmas.Map.Lookups.{exact_bytes}
use Rattle.std.specs.Ordering.{nat_cmp, is_eq, match_ordering}
use Rattle.std.specs.Cmp.Lexicographic.{slice_cmp}
use Rattle.log4rs_settings.specs.Data.{Data, Members, no_members, member}
use Rattle.log4rs_settings.specs.Fields.{given}
use Rattle.log4rs_settings.specs.Part.{optional, read_or, within}
use Rattle.log4rs_settings.specs.Values.{as_bool}
use Rattle.log4rs_settings.specs.Members.{get_member, same_key, without}

passed_by : (o : Ordering) (found rest : Option Data) → is_eq o ≡ false → match_ordering o rest found rest ≡ rest
passed_by Less found rest h = refl
passed_by Equal found rest h = absurd (false≢true (sym h))
passed_by Greater found rest h = refl

is_equal : (o : Ordering) → is_eq o ≡ true → o ≡ Equal
is_equal Less h = absurd (false≢true h)
is_equal Equal h = refl
is_equal Greater h = absurd (false≢true h)

-- what stands at another key stays
pub get_member-without : (k l : List ℕ) (ms : Members) → same_key k l ≡ false → get_member k (without l ms) ≡ get_member k ms
get_member-without k l no_members h = refl
get_member-without k l (member m d ms) h =
    elim (cases_Bool (same_key l m)) [
      | inl here ↦
          let same : l ≡ m = exact_bytes l m (is_equal (slice_cmp nat_cmp l m) here) in
          rw here (sym (passed_by (slice_cmp nat_cmp k m) (Some d) (get_member k ms) (ap (same_key k) (sym same) ∙ h)))
      | inr other ↦ rw other (ap (λ rest. match_ordering (slice_cmp nat_cmp k m) rest (Some d) rest) (get_member-without k l ms h))
    ]

-- what is read after the appenders, or after the root, is still there
pub additive_stays : (ms : Members) → optional (codes "additive") as_bool true (without (codes "appenders") ms) ≡ optional (codes "additive") as_bool true ms
additive_stays ms = ap (λ d. within (codes "additive") (read_or (codes "additive") as_bool true (given d))) (get_member-without (codes "additive") (codes "appenders") ms refl)

pub appenders_stay : (ms : Members) → get_member (codes "appenders") (without (codes "root") ms) ≡ get_member (codes "appenders") ms
appenders_stay ms = get_member-without (codes "appenders") (codes "root") ms refl

pub loggers_stay : (ms : Members) → get_member (codes "loggers") (without (codes "root") ms) ≡ get_member (codes "loggers") ms
loggers_stay ms = get_member-without (codes "loggers") (codes "root") ms refl

pub loggers_are_left : (ms : Members) → get_member (codes "loggers") (without (codes "appenders") ms) ≡ get_member (codes "loggers") ms
loggers_are_left ms = get_member-without (codes "loggers") (codes "appenders") ms refl
