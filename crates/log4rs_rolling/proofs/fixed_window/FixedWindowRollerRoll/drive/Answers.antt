use Rattle.std.proofs.Common.{◌≡◌, None}
use Rattle.log4rs_rolling.specs.Roller.{archive_name}
use Rattle.log4rs_rolling.proofs.Moving.{on_ok_map}
use Rattle.log4rs_rolling.proofs.Shown.{shows_at_last}
use Rattle.log4rs_rolling.proofs.Stepping.{rest_none}
use Rattle.log4rs_rolling.proofs.fixed_window.FixedWindowRollerRoll.drive.Goals as goal

pub returns : goal.returns
returns g c =
    let disk = g.S.Store.disk in
    let now = c.drive_job.new.self in
    let all = c.drive_job.ensures in
    let d1 = disk c.drive_job.new.store in
    record {
      steps = all.stepped;
      made = λ built. record {
        moved = all.moved;
        done = on_ok_map c.drive_job.result (λ (none : now.job ≡ None). rest_none (archive_name now) now.base now.job none) all.ok;
        ended = all.ended;
        shown = λ path. on_ok_map c.drive_job.result (λ (none : now.job ≡ None). shows_at_last c.args.self.now now path (disk c.args.store.now) d1 all.stepped none all.asked) all.ok;
        err = all.err;
        unrefused = all.told.unrefused;
        fault = all.told.fault;
        cost = all.cost;
      };
    }
