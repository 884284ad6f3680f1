-- What the filters of an appender answer, by their plans and by what was handed in.
use Rattle.std.specs.Prelude.{ℕ, List, [], ◌∷◌, ◌++◌, option_map}
use Rattle.std.specs.Option.{option_to_list}
use Rattle.log4rs_base.specs.Filtering.{threshold_answer}
use Rattle.log4rs_base.specs.declared.filter.Response.{Response}
use Rattle.log4rs_base.specs.declared.record.Record.{Record}
use Rattle.log4rs_settings.specs.declared.plan.FilterPlan.{FilterPlan}
use Rattle.log4rs_settings.specs.declared.plan.FilterPlan.TheVariants.{Threshold, HandedIn}
use Rattle.log4rs_parts.specs.NamedParts.{first_for, without_first}

-- what a filter answers to each record
abbrev pub Answer : Type 0
Answer = Record → Response

-- the filters answer as their plans say;
-- each that was handed in is the earliest that waits for the appender of the name
abbrev pub planned_answers : {C : Type 0}
    → (C → Answer) → List ℕ → List FilterPlan → List (List ℕ × C) → List Answer
planned_answers custom name [] waiting = []
planned_answers custom name (Threshold level ∷ plans) waiting =
    (λ r. threshold_answer level r.level) ∷ planned_answers custom name plans waiting
planned_answers custom name (HandedIn ∷ plans) waiting =
    option_to_list (option_map custom (first_for name waiting))
    ++ planned_answers custom name plans (without_first name waiting)

-- what waits after them
abbrev pub left_by : {C : Type 0} → List ℕ → List FilterPlan → List (List ℕ × C) → List (List ℕ × C)
left_by name [] waiting = waiting
left_by name (Threshold level ∷ plans) waiting = left_by name plans waiting
left_by name (HandedIn ∷ plans) waiting = left_by name plans (without_first name waiting)
