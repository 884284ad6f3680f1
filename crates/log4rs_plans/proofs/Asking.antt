-- What settings ask for, one after another.
use Rattle.std.proofs.Common.{◌≡◌, List, [], ◌∷◌, ◌++◌, Option, Some, None, refl, ap, sym, ◌∙◌}
use Rattle.std.proofs.lemmas.List.Elements.{filter_map-append}
use Rattle.std.specs.List.{cons_option, filter_map}
use Rattle.std.specs.Option.{option_to_list}
use Rattle.log4rs_base.specs.Text.{Text}
use Rattle.log4rs_plans.specs.Effective.{Planned, if_planned, planned_in}
use Rattle.log4rs_plans.specs.Plans.{Asked}
use Rattle.log4rs_plans.specs.declared.surroundings.Surroundings.{Surroundings}

-- one appender more that is planned, or not
one_of : {A : Type 0} (o : Option A) → cons_option o [] ≡ option_to_list o
one_of None = refl
one_of (Some x) = refl

-- one more that something is given for, or not
pub given_next : {X Y : Type 0} (give : X → Option Y) (before : List X) (x : X) (done : List Y) (here : Option Y)
    → done ≡ filter_map give before → here ≡ give x → done ++ option_to_list here ≡ filter_map give (before ++ x ∷ [])
given_next give before x done here was is =
    rw (was, is) (sym (filter_map-append give before (x ∷ []) ∙ ap (λ l. filter_map give before ++ l) (one_of (give x))))

pub planned_next : (around : Surroundings) (before : List (Text × Asked)) (a : Text × Asked) (done : List Planned) (here : Option Planned)
    → done ≡ planned_in around before → here ≡ if_planned around a.0 a.1.plan → done ++ option_to_list here ≡ planned_in around (before ++ a ∷ [])
planned_next around before a done here was is = given_next (λ (b : Text × Asked). if_planned around b.0 b.1.plan) before a done here was is
