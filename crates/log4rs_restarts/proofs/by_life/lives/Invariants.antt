use Rattle.std.proofs.Common.{◌≡◌, ◌≤◌, take, length, vec_len, vec_capacity}
use Rattle.log4rs_restarts.specs.Lives.{AreKept, LivesDid}
use Rattle.log4rs_restarts.proofs.by_life.lives.Given as goal

-- the lives so far did what they report; there is room for a report of each life to come
abbrev pub invariant-loop-life : goal.invariant-loop-life
invariant-loop-life g l =
    let disk = g.S.Store.disk in
    record {
      number : vec_len l.reports ≡ l.life-index;
      room : length l.lives ≤ vec_capacity l.reports;
      kept : AreKept (take l.life-index l.lives) (disk l.fn.store) (disk l.store);
      did : LivesDid (take l.life-index l.lives) l.reports.items (disk l.fn.store) (disk l.store);
    }
