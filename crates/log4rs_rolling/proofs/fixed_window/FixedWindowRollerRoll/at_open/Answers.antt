use Rattle.std.proofs.Common.{arith}
use Rattle.log4rs_rolling.proofs.Costing.{costs_within, roller_cost}
use Rattle.log4rs_rolling.proofs.Found.{opening_shows}
use Rattle.log4rs_rolling.proofs.Opening.{looked_ok, told_ok}
use Rattle.log4rs_rolling.proofs.fixed_window.FixedWindowRollerRoll.at_open.Goals as goal

pub returns-clause-ready : goal.returns-clause-ready
returns-clause-ready g c =
    let disk = g.S.Store.disk in
    let self = c.args.self.now in
    let now = c.open_job.new.self in
    let path = c.args.file.now in
    let one = c.open_job.ensures in
    record {
      steps = one.stepped;
      made = λ built. record {
        moves = one.moves;
        looked = looked_ok c.open_job.result self now path one.stepped.names one.ok one.none;
        told = λ some. told_ok c.open_job.result self now path one.stepped.names some one.ok;
        shown = opening_shows c.open_job.result self now path (disk c.args.store.now) (disk c.open_job.new.store) one.stepped one.ok one.none one.moves;
        unrefused = one.told.unrefused;
        fault = one.told.fault;
        cost = let most = roller_cost self in costs_within _ _ c.open_job.result (disk c.args.store.now) (disk c.open_job.new.store) one.cost (omega arith);
      };
    }
