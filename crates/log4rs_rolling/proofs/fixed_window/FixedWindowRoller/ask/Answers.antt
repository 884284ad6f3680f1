use Rattle.std.proofs.Common.{rules, arith}
use Rattle.log4rs_rolling.proofs.Costing.{costs_join, costs_within, rest_most, same_count}
use Rattle.log4rs_rolling.proofs.Found.{moves_all, moves_not, moves_rest}
use Rattle.log4rs_rolling.proofs.Stepping.{stepped_at_join}
use Rattle.log4rs_rolling.specs.Roller.{kept_by, rest_by}
use Rattle.log4rs_rolling.proofs.fixed_window.FixedWindowRoller.ask.Goals as goal

pub returns-then-self-clause-stepped : goal.returns-then-self-clause-stepped
returns-then-self-clause-stepped g c = c.drive_job.ensures.stepped c.args.file.now

pub returns-clause-stepped : goal.returns-clause-stepped
returns-clause-stepped g c =
    let disk = g.S.Store.disk in
    let k1 = kept_by c.probe.new.self in
    let k2 = kept_by c.drive_job-2.new.self in
    let file = c.args.file.now in
    let d1 = disk c.probe.new.store in
    let d2 = disk c.drive_job-2.new.store in
    stepped_at_join (kept_by c.args.self.now) k1 k2 file (disk c.args.store.now) d1 d2 c.probe.ensures.stepped (c.drive_job-2.ensures.stepped file)

pub returns-clause-moves : goal.returns-clause-moves
returns-clause-moves g c =
    let disk = g.S.Store.disk in
    moves_all (kept_by c.args.self.now) c.args.file.now c.drive_job-2.result (rest_by c.probe.new.self) (disk c.args.store.now) (disk c.probe.new.store) (disk c.drive_job-2.new.store)
    c.in_ok-probe.ensures.found c.drive_job-2.ensures.moved c.drive_job-2.ensures.err

pub returns-then-self-clause-moves : goal.returns-then-self-clause-moves
returns-then-self-clause-moves g c =
    let disk = g.S.Store.disk in
    moves_rest (kept_by c.args.self.now) c.args.file.now c.drive_job.result (disk c.args.store.now) (disk c.drive_job.new.store) c.if-self.true c.drive_job.ensures.moved c.drive_job.ensures.err

pub returns-in_err-probe-clause-moves : goal.returns-in_err-probe-clause-moves
returns-in_err-probe-clause-moves g c =
    let disk = g.S.Store.disk in
    moves_not (kept_by c.args.self.now) c.args.file.now _ (disk c.args.store.now) (disk c.probe.new.store) (λ X. search rules) c.in_err-probe.ensures.err.1

pub returns-clause-cost : goal.returns-clause-cost
returns-clause-cost g c =
    let disk = g.S.Store.disk in
    let most = rest_most c.probe.new.self in
    let same = same_count c.args.self.now c.probe.new.self c.probe.ensures.stepped.names in
    costs_join _ _ _ c.drive_job-2.result (disk c.args.store.now) (disk c.probe.new.store) (disk c.drive_job-2.new.store) c.probe.ensures.cost.made c.drive_job-2.ensures.cost (omega arith)

pub returns-then-self-clause-cost : goal.returns-then-self-clause-cost
returns-then-self-clause-cost g c =
    let disk = g.S.Store.disk in
    let most = rest_most c.args.self.now in
    costs_within _ _ c.drive_job.result (disk c.args.store.now) (disk c.drive_job.new.store) c.drive_job.ensures.cost (omega arith)
