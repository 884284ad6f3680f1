use Rattle.std.proofs.Common.{◌≡◌, ◌≤◌, vec_len, vec_capacity}
use Rattle.log4rs_restarts.specs.Runs.{AreReady}
use Rattle.log4rs_restarts.proofs.runs.reserve.Given as goal

abbrev pub invariant-loop : goal.invariant-loop
invariant-loop l =
    record {
      number : vec_len l.reports ≡ l.counter;
      room : l.number ≤ vec_capacity l.reports;
      ready : AreReady l.room l.reports.items;
    }
