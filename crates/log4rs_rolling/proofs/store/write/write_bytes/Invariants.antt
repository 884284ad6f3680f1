use Rattle.std.proofs.Common.{length, ◌-◌, ◌≡◌, ◌≤◌, IsTrue, None}
use Rattle.log4rs_rolling.specs.Costs.{Makes}
use Rattle.log4rs_rolling.specs.Disk.{Calls, SameOpen}
use Rattle.log4rs_rolling.specs.FileChanges.{WroteFirst}
use Rattle.log4rs_rolling.proofs.store.write.write_bytes.Given as goal

abbrev pub invariant-loop-done : goal.invariant-loop-done
invariant-loop-done g l =
    let disk = g.S.Store.disk in
    record {
      within : l.done ≤ length l.bytes;
      count : (disk l.store).refusals ≡ (disk l.initial.store).refusals;
      shut : IsTrue (disk l.initial.store).tells → (disk l.initial.store).opened ≡ None → l.done ≡ 0;
      opened : SameOpen (disk l.initial.store) (disk l.store);
      made : Makes l.done (disk l.initial.store) (disk l.store);
      calls : Calls (disk l.initial.store) (disk l.store) (WroteFirst (disk l.initial.store) l.bytes l.done);
    }

abbrev pub decreases-loop-done : goal.decreases-loop-done
decreases-loop-done g l = length l.bytes - l.done
