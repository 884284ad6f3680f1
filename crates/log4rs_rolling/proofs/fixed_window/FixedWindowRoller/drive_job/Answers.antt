use Rattle.std.proofs.Common.{rules, ◌≡◌, ◌+◌, ◌∙◌, [], arith}
use Rattle.log4rs_rolling.specs.Roller.{archive_name, kept_by, left_of, rest_by}
use Rattle.log4rs_rolling.proofs.Stepping.{drive_ends, drive_goes_on, drive_stops, last_join, rest_none, stepped_join}
use Rattle.log4rs_rolling.proofs.Costing.{drive_costs, drive_makes, rest_length}
use Rattle.log4rs_rolling.proofs.Moving.{on_err}
use Rattle.log4rs_rolling.proofs.Retiring.{ended_job}
use Rattle.log4rs_rolling.proofs.fixed_window.FixedWindowRoller.drive_job.Goals as goal

pub returns-in_err-step_job-clause-stepped : goal.returns-in_err-step_job-clause-stepped
returns-in_err-step_job-clause-stepped g c =
    let disk = g.S.Store.disk in
    stepped_join (kept_by c.args.self.now) (kept_by c.loop.self) (kept_by c.step_job.new.self) (disk c.args.store.now) (disk c.loop.store) (disk c.step_job.new.store) c.loop.invariant.stepped c.step_job.ensures.stepped

pub loop-preserved : goal.loop-preserved
loop-preserved g c =
    let disk = g.S.Store.disk in
    let now = c.step_job.new.self in
    let before = c.loop.self in
    let next : left_of before.job ≡ left_of now.job + 1 = search rules in
    let was = rest_length (archive_name before) before.base before.job in
    let is = rest_length (archive_name now) now.base now.job in
    let fewer = c.loop.invariant.fewer in
    record {
      stepped = stepped_join (kept_by c.args.self.now) (kept_by c.loop.self) (kept_by c.step_job.new.self) (disk c.args.store.now) (disk c.loop.store) (disk c.step_job.new.store) c.loop.invariant.stepped c.step_job.ensures.stepped;
      moved = drive_goes_on (rest_by c.args.self.now) (rest_by c.loop.self) (rest_by c.step_job.new.self) _ _ _ c.loop.invariant.moved c.in_ok-step_job.ensures.moved;
      unrefused = c.in_ok-step_job.ensures.told.unrefused ∙ c.loop.invariant.unrefused;
      asked = c.step_job.ensures.asked ∙ c.loop.invariant.asked;
      fewer = omega arith;
      made = drive_makes (rest_by c.args.self.now) (rest_by before) (rest_by now) (disk c.args.store.now) (disk c.loop.store) (disk c.step_job.new.store) fewer (omega arith) c.loop.invariant.made c.step_job.ensures.cost.made;
      rest = last_join (rest_by c.args.self.now) (rest_by c.loop.self) (rest_by c.step_job.new.self) c.loop.invariant.rest c.in_ok-step_job.ensures.rest;
    }

pub returns-clause-stepped : goal.returns-clause-stepped
returns-clause-stepped g c =
    let disk = g.S.Store.disk in
    stepped_join (kept_by c.args.self.now) (kept_by c.loop.self) (kept_by c.step_job.new.self) (disk c.args.store.now) (disk c.loop.store) (disk c.step_job.new.store) c.loop.invariant.stepped c.step_job.ensures.stepped

pub returns-clause-moved : goal.returns-clause-moved
returns-clause-moved g c =
    let now = c.step_job.new.self in
    drive_ends (rest_by c.args.self.now) (rest_by now) _ _ (rest_none (archive_name now) now.base now.job (search rules))
    (drive_goes_on (rest_by c.args.self.now) (rest_by c.loop.self) (rest_by now) _ _ _ c.loop.invariant.moved c.in_ok-step_job.ensures.moved)

pub returns-in_err-step_job-clause-err : goal.returns-in_err-step_job-clause-err
returns-in_err-step_job-clause-err g c =
    let disk = g.S.Store.disk in
    on_err _ (drive_stops (rest_by c.args.self.now) (rest_by c.loop.self) (disk c.args.store.now) (disk c.loop.store) (disk c.step_job.new.store) c.loop.invariant.moved c.in_err-step_job.ensures.err.1)

pub returns-clause-ended : goal.returns-clause-ended
returns-clause-ended g c =
    let now = c.step_job.new.self in
    let disk = g.S.Store.disk in
    let whole = stepped_join (kept_by c.args.self.now) (kept_by c.loop.self) (kept_by now) (disk c.args.store.now) (disk c.loop.store) (disk c.step_job.new.store) c.loop.invariant.stepped c.step_job.ensures.stepped [] in
    ended_job c.args.self.now now whole.names (c.step_job.ensures.asked ∙ c.loop.invariant.asked) (search rules)

pub returns-in_err-step_job-clause-cost : goal.returns-in_err-step_job-clause-cost
returns-in_err-step_job-clause-cost g c =
    let disk = g.S.Store.disk in
    drive_costs (rest_by c.args.self.now) (rest_by c.loop.self) _ (disk c.args.store.now) (disk c.loop.store) (disk c.step_job.new.store) c.loop.invariant.fewer c.loop.invariant.made
    (record { made = c.step_job.ensures.cost.made; cause = search rules })

pub returns-clause-cost : goal.returns-clause-cost
returns-clause-cost g c =
    let disk = g.S.Store.disk in
    let all = drive_costs (rest_by c.args.self.now) (rest_by c.loop.self) c.step_job.result (disk c.args.store.now) (disk c.loop.store) (disk c.step_job.new.store) c.loop.invariant.fewer c.loop.invariant.made c.step_job.ensures.cost in
    record { made = all.made; cause = λ tells. tt }
