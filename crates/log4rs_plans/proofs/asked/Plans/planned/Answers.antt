use Rattle.std.proofs.Common.{◌≡◌, ◌+◌, [], ◌∷◌, ◌++◌, Err, None, Ok, Result, Some, ap, append-nil, map, refl, rules, string_bytes, sym, take, ◌∙◌}
use Rattle.std.proofs.lemmas.List.{map-append, take_more}
use Rattle.log4rs_base.specs.Text.{Text}
use Rattle.log4rs_settings.specs.Plan.{AppenderPlan, appender_of}
use Rattle.log4rs_settings.specs.declared.part.PartFault.{PartFault}
use Rattle.log4rs_settings.specs.declared.plan.AppenderPlan.{AppenderPlan as AppenderValue}
use Rattle.log4rs_plans.specs.Effective.{effective, if_planned, planned_of}
use Rattle.log4rs_plans.specs.View.{asked_view, told}
use Rattle.log4rs_plans.specs.declared.surroundings.Surroundings.{Surroundings}
use Rattle.log4rs_plans.proofs.Asking.{planned_next}
use Rattle.log4rs_plans.proofs.asked.Plans.planned.Goals.{in-Ok+in_ok-copy+in_ok-plan+in_ok-name+in_ok-push, in_default}
use Rattle.log4rs_plans.proofs.asked.Plans.planned.Goals as goal

-- what an appender is to be, by whether its settings have a fault
is_planned : (around : Surroundings) (plan : Result AppenderValue PartFault) (value : AppenderValue) (name own : Text) (made : AppenderPlan)
    → plan ≡ Ok value → name ≡ own → made ≡ effective around (appender_of value) → Some (name, made) ≡ if_planned around own (told appender_of plan)
is_planned around plan value name own made is named as_planned = rw (is, named, as_planned) refl

is_not : (around : Surroundings) (name : Text) (plan : Result AppenderValue PartFault) → ((value : AppenderValue) → plan ≡ Ok value → ⊥)
    → None ≡ if_planned around name (told appender_of plan)
is_not around name (Ok value) fails = absurd (fails value refl)
is_not around name (Err fault) fails = refl

pub loop-asked-preserved : goal.loop-asked-preserved
loop-asked-preserved c =
    let xs = c.deref-asked-items.result.now in
    let i = c.loop-asked.asked-index in
    let x = c.asked-item.result in
    let around = c.args.surroundings.now in
    let done = c.loop-asked.planned.items in
    let grown : map asked_view (take (i + 1) xs) ≡ map asked_view (take i xs) ++ asked_view x ∷ [] =
    ap (map asked_view) (take_more xs i x c.loop-asked-test.true ∙ ap (λ y. take i xs ++ y ∷ []) (sym c.asked-item.is)) ∙ map-append asked_view (take i xs) (x ∷ []) in
    elim c.match-asked.branch [
      | in-Ok+in_ok-copy+in_ok-plan+in_ok-name+in_ok-push w ↦
          let named : string_bytes w.in_ok-name.name ≡ string_bytes x.name = search rules in
          rw (w.planned-is, w.in_ok-push.ensures.items, grown) (map-append planned_of done _ ∙ planned_next around (map asked_view (take i xs)) (asked_view x) (map planned_of done) _ c.loop-asked.invariant
          (is_planned around x.plan _ _ _ _ w.in-Ok.is named (w.in_ok-plan.ensures ∙ ap (effective around) w.in_ok-copy.ensures)))
      | in_default w ↦
          rw (w.planned-is, grown) (sym (append-nil (map planned_of done)) ∙ planned_next around (map asked_view (take i xs)) (asked_view x) (map planned_of done) None c.loop-asked.invariant
          (is_not around _ x.plan w.in_default.not-Ok))
    ]
