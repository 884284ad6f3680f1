use Rattle.std.proofs.Common.{◌≡◌, ◌++◌, map}
use Rattle.log4rs_base.specs.Filtering.{answer_of}
use Rattle.log4rs_parts.specs.Filters.{planned_answers, left_by}
use Rattle.log4rs_parts.specs.NamedParts.{parts_in}
use Rattle.log4rs_parts.proofs.from_parts.build_filters.Given as goal

abbrev pub invariant-loop-plan : goal.invariant-loop-plan
invariant-loop-plan g l =
    (l.fn.plans.items ≡ l.yielded ++ l.plan-iterator.rest.items)
    × (map (answer_of g.C.Filter.answer) l.filters.items ≡ planned_answers g.C.Filter.answer l.name l.yielded (parts_in l.fn.named_parts))
    × (parts_in l.named_parts ≡ left_by l.name l.yielded (parts_in l.fn.named_parts))
