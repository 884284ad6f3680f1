use Rattle.std.proofs.Common.{◌≡◌, ◌<◌, ◌+◌, ◌-◌, ◌*◌, IsTrue, None}
use Rattle.log4rs_rolling.specs.Costs.{Makes}
use Rattle.log4rs_rolling.specs.Disk.{Calls}
use Rattle.log4rs_rolling.specs.Copies.{OnlyRenames}
use Rattle.log4rs_rolling.specs.Roller.{archive_name, moves_of}
use Rattle.log4rs_rolling.proofs.Moving.{Rotating, moves_left}
use Rattle.log4rs_rolling.proofs.fixed_window.FixedWindowRoller.rotate.Given as goal

abbrev pub invariant-loop-at : goal.invariant-loop-at
invariant-loop-at g l =
    let disk = g.S.Store.disk in
    record {
      below : l.at < l.self.count;
      closed : IsTrue (disk l.fn.store).tells → (disk l.fn.store).opened ≡ None → (disk l.store).opened ≡ None;
      unrefused : IsTrue l.self.rename_only → (disk l.store).refusals ≡ (disk l.fn.store).refusals;
      made : Makes (1 + 4 * (l.self.count - (l.at + 1))) (disk l.fn.store) (disk l.store);
      calls : Calls (disk l.fn.store) (disk l.store)
          (Rotating (disk l.fn.store) (moves_of l.self l.file) (moves_left (archive_name l.self) l.self.base l.at l.file) (OnlyRenames l.self.rename_only (disk l.fn.store) (disk l.store)));
    }

abbrev pub decreases-loop-at : goal.decreases-loop-at
decreases-loop-at g l = l.at
