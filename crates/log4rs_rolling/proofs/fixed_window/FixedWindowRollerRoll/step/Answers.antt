use Rattle.std.proofs.Common.{◌≡◌, ap, []}
use Rattle.log4rs_rolling.specs.Disk.{Calls}
use Rattle.log4rs_rolling.specs.Keeping.{Keeping}
use Rattle.log4rs_rolling.specs.Roller.{kept_by}
use Rattle.log4rs_rolling.proofs.Moving.{on_err_map}
use Rattle.log4rs_rolling.proofs.Opening.{ok_map}
use Rattle.log4rs_rolling.proofs.Working.{more_left, no_rest}
use Rattle.log4rs_rolling.proofs.fixed_window.FixedWindowRollerRoll.step.Goals as goal

pub returns : goal.returns
returns g c =
    let disk = g.S.Store.disk in
    let self = c.args.self.now in
    let now = c.step_job.new.self in
    let one = c.step_job.ensures in
    record {
      steps = one.stepped;
      made = λ built. record {
        moved = one.moved;
        more = more_left c.step_job.result now (λ more. Unit {0}) (ok_map c.step_job.result _ _ one.ok (λ more is. (λ yes. (tt, (is.0 yes).1), is.1)));
        err = on_err_map c.step_job.result
            (λ (e : (kept_by now ≡ kept_by self) × Calls (disk c.args.store.now) (disk c.step_job.new.store) (λ added. added ≡ [])). (ap (λ (k : Keeping). k.rest) e.0, e.1)) one.err;
        none = λ rest. one.none (no_rest self rest);
        once = one.once;
        unrefused = one.told.unrefused;
        fault = one.told.fault;
        cost = one.cost;
      };
    }
