use Rattle.std.proofs.Common.{[], ◌∷◌, ◌++◌, map, sym, ap, ◌∙◌, append_assoc, append-nil}
use Rattle.std.proofs.lemmas.List.{map-append}
use Rattle.log4rs_base.specs.Filtering.{answer_of}
use Rattle.log4rs_parts.specs.Filters.{planned_answers, left_by}
use Rattle.log4rs_parts.specs.NamedParts.{parts_in}
use Rattle.log4rs_parts.proofs.Answering.{answers-last, left-last}
use Rattle.log4rs_parts.proofs.from_parts.build_filters.Goals as goal

pub loop-plan-preserved-in-Continue-1 : goal.loop-plan-preserved-in-Continue-1
loop-plan-preserved-in-Continue-1 g c =
    let l = c.loop-plan in
    let n = c.args.name.now in
    let s = parts_in c.args.named_parts.now in
    let p = c.in-Some.plan in
    let f = c.in-Some-build_filter.filter in (
      l.invariant.0 ∙ ap (λ t. l.yielded ++ t) c.in-Some.ensures.steps.0 ∙ sym (append_assoc l.yielded (p ∷ []) c.next.new.self.rest.items),
      ap (map (answer_of g.C.Filter.answer)) c.in_ok-push.ensures.items ∙ map-append (answer_of g.C.Filter.answer) l.filters.items (f ∷ [])
          ∙ ap (λ a. a ++ map (answer_of g.C.Filter.answer) (f ∷ [])) l.invariant.1
          ∙ ap (λ b. planned_answers g.C.Filter.answer n l.yielded s ++ b) (c.in-Some-build_filter.ensures.answers ∙ ap (planned_answers g.C.Filter.answer n (p ∷ [])) l.invariant.2)
          ∙ sym (answers-last g.C.Filter.answer n l.yielded p s),
      c.in-Some-build_filter.ensures.left ∙ ap (left_by n (p ∷ [])) l.invariant.2 ∙ sym (left-last g.C.Filter.answer n l.yielded p s),
    )

pub loop-plan-preserved : goal.loop-plan-preserved
loop-plan-preserved g c =
    let l = c.loop-plan in
    let n = c.args.name.now in
    let s = parts_in c.args.named_parts.now in
    let p = c.in-Some.plan in (
      l.invariant.0 ∙ ap (λ t. l.yielded ++ t) c.in-Some.ensures.steps.0 ∙ sym (append_assoc l.yielded (p ∷ []) c.next.new.self.rest.items),
      l.invariant.1 ∙ sym (append-nil (planned_answers g.C.Filter.answer n l.yielded s))
          ∙ ap (λ b. planned_answers g.C.Filter.answer n l.yielded s ++ b) (c.in_default.ensures.answers ∙ ap (planned_answers g.C.Filter.answer n (p ∷ [])) l.invariant.2)
          ∙ sym (answers-last g.C.Filter.answer n l.yielded p s),
      c.in_default.ensures.left ∙ ap (left_by n (p ∷ [])) l.invariant.2 ∙ sym (left-last g.C.Filter.answer n l.yielded p s),
    )
