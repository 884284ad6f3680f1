use Rattle.std.proofs.Common.{[], ◌∷◌, ◌++◌, Ok, Err, ap, append-nil, append_assoc, map, sym, ◌∙◌}
use Rattle.log4rs_plans.specs.Outcomes.{filter_errors, good}
use Rattle.log4rs_plans.proofs.Good.{errors-last, good-last, seen}
use Rattle.log4rs_plans.proofs.faults.good_filters.Goals.{in-Ok+in_ok-push-in-Ok, in-Err+in_ok-note_filter-in-Err}
use Rattle.log4rs_plans.proofs.faults.good_filters.Goals as goal

pub loop-filter-preserved : goal.loop-filter-preserved
loop-filter-preserved c =
    let l = c.loop-filter in
    let x = c.in-Some.filter in
    let n = c.args.name.now in
    let noted = c.args.errors.now in
    let steps = l.invariant.0 ∙ ap (λ t. l.yielded ++ t) c.in-Some.ensures.steps.0 ∙ sym (append_assoc l.yielded (x ∷ []) c.next.new.self.rest.items) in
    elim c.match-filter.branch [
      | in-Ok+in_ok-push-in-Ok w ↦ (
        steps,
        rw (w.plans-is, w.in_ok-push-in-Ok.ensures.items, l.invariant.1, w.in-Ok.is) (sym (good-last l.yielded (Ok w.in-Ok.plan))),
        rw (w.errors-is, l.invariant.2, w.in-Ok.is) (ap (λ e. noted ++ e) (sym (errors-last n l.yielded (Ok w.in-Ok.plan) ∙ append-nil (filter_errors n (map seen l.yielded))))),
      )
      | in-Err+in_ok-note_filter-in-Err w ↦ (
        steps,
        rw (w.plans-is, l.invariant.1, w.in-Err.is) (sym (good-last l.yielded (Err w.in-Err.fault) ∙ append-nil (good (map seen l.yielded)))),
        rw (w.errors-is, w.in_ok-note_filter-in-Err.ensures.ok, l.invariant.2, w.in-Err.is) (append_assoc noted (filter_errors n (map seen l.yielded)) _
            ∙ ap (λ e. noted ++ e) (sym (errors-last n l.yielded (Err w.in-Err.fault)))),
      )
    ]
