use Rattle.std.proofs.Common.{◌≤◌, ◌+◌, arith, refl, string_bytes, true}
use Rattle.log4rs_rolling.specs.AtOpening.{opening_cost}
use Rattle.log4rs_rolling.proofs.Costing.{makes_join, makes_within}
use Rattle.log4rs_rolling.specs.Roller.{kept_by}
use Rattle.log4rs_append.proofs.Beginning.{made_then_nothing, made_then_opened, made_then_tried}
use Rattle.log4rs_restarts.proofs.Opening.{made_then_may}
use Rattle.log4rs_restarts.proofs.runs.open_file.Goals as goal

pub returns-in-Err-clause-tried : goal.returns-in-Err-clause-tried
returns-in-Err-clause-tried g c =
    let disk = g.S.Store.disk in
    made_then_nothing (kept_by c.args.policy.roller) (string_bytes c.args.path) true (disk c.args.store) (disk c.make_parent.new.store) c.make_parent.ensures.calls c.make_parent.ensures.opened

pub returns-in-Ok-clause-opened : goal.returns-in-Ok-clause-opened
returns-in-Ok-clause-opened g c =
    let disk = g.S.Store.disk in
    made_then_opened (kept_by c.args.policy.roller) (kept_by c.in-Ok.file.policy.roller) (string_bytes c.args.path) true (disk c.args.store) (disk c.make_parent.new.store) (disk c.in-Ok.file.store)
    c.in_default.ensures.ok c.make_parent.ensures.calls c.make_parent.ensures.opened c.in-Ok.ensures.asked

pub returns-in-Err-open-clause-tried : goal.returns-in-Err-open-clause-tried
returns-in-Err-open-clause-tried g c =
    let disk = g.S.Store.disk in
    made_then_tried (kept_by c.args.policy.roller) (string_bytes c.args.path) true (disk c.args.store) (disk c.make_parent.new.store) (disk c.in-Err-open.failed.0)
    c.make_parent.ensures.calls c.make_parent.ensures.opened c.in-Err-open.ensures.tried

pub returns-in-Err-open-clause-cause : goal.returns-in-Err-open-clause-cause
returns-in-Err-open-clause-cause g c =
    let disk = g.S.Store.disk in
    made_then_may c.opening_error-error.result (disk c.args.store).refusals (disk c.make_parent.new.store).refusals (disk c.in-Err-open.failed.0).refusals c.make_parent.ensures.calls.refusals
    (c.opening_error-error.ensures (disk c.make_parent.new.store).refusals (disk c.in-Err-open.failed.0).refusals (c.in-Err-open.ensures.fault refl).0)

pub returns-in-Err-clause-tried_cost : goal.returns-in-Err-clause-tried_cost
returns-in-Err-clause-tried_cost g c =
    let more = opening_cost (kept_by c.args.policy.roller) in
    makes_within 1 (more + 1) _ _ c.make_parent.ensures.cost.made (omega arith)

pub returns-in-Ok-clause-cost : goal.returns-in-Ok-clause-cost
returns-in-Ok-clause-cost g c =
    let more = opening_cost (kept_by c.args.policy.roller) in
    makes_join 1 more (more + 1) _ _ _ c.make_parent.ensures.cost.made (c.in-Ok.ensures.cost refl) (omega arith)

pub returns-in-Err-open-clause-tried_cost : goal.returns-in-Err-open-clause-tried_cost
returns-in-Err-open-clause-tried_cost g c =
    let more = opening_cost (kept_by c.args.policy.roller) in
    makes_join 1 more (more + 1) _ _ _ c.make_parent.ensures.cost.made (c.in-Err-open.ensures.cost refl) (omega arith)
