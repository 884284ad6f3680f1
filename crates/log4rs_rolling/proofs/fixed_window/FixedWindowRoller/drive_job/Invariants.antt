use Rattle.std.proofs.Common.{◌≡◌, ◌≤◌, ◌-◌, ◌*◌, length}
use Rattle.log4rs_rolling.specs.Costs.{Makes}
use Rattle.log4rs_rolling.specs.Disk.{Calls, files_of}
use Rattle.log4rs_rolling.specs.Keeping.{SteppedAs}
use Rattle.log4rs_rolling.specs.Roller.{kept_by, left_of, rest_by, was_asked}
use Rattle.log4rs_rolling.specs.Moves.{AreLast}
use Rattle.log4rs_rolling.proofs.Moving.{Leads}
use Rattle.log4rs_rolling.proofs.fixed_window.FixedWindowRoller.drive_job.Given as goal

abbrev pub invariant-loop : goal.invariant-loop
invariant-loop g l =
    let disk = g.S.Store.disk in
    record {
      stepped : SteppedAs (kept_by l.fn.self) (kept_by l.self) (disk l.fn.store) (disk l.store);
      moved : Calls (disk l.fn.store) (disk l.store) (Leads (files_of (disk l.fn.store)) (rest_by l.fn.self) (rest_by l.self));
      unrefused : (disk l.store).refusals ≡ (disk l.fn.store).refusals;
      asked : was_asked l.self ≡ was_asked l.fn.self;
      fewer : length (rest_by l.self) ≤ length (rest_by l.fn.self);
      made : Makes (3 * (length (rest_by l.fn.self) - length (rest_by l.self))) (disk l.fn.store) (disk l.store);
      rest : AreLast (rest_by l.fn.self) (rest_by l.self);
    }

abbrev pub decreases-loop : goal.decreases-loop
decreases-loop g l = left_of l.self.job
