use Rattle.std.proofs.Common.{All, ◌≡◌, ◌≤◌, ◌+◌, take, length, string_bytes, vec_len, vec_capacity}
use Rattle.log4rs_rolling.specs.Roller.{kept_anew}
use Rattle.log4rs_restarts.specs.ActsDone.{DidRuns}
use Rattle.log4rs_restarts.specs.Triggers.{Begins}
use Rattle.log4rs_restarts.specs.Failures.{AreRefused}
use Rattle.log4rs_restarts.specs.Reports.{AreReported}
use Rattle.log4rs_restarts.specs.Runs.{AreReady, IsRefused}
use Rattle.log4rs_append.specs.Sink.{plain_reading}
use Rattle.log4rs_restarts.proofs.runs.run_all.Given as goal

-- the runs so far were done; there is a report with room for each run to come
abbrev pub invariant-loop-run : goal.invariant-loop-run
invariant-loop-run g l =
    let disk = g.S.Store.disk in
    record {
      left : vec_len l.ready + l.run-index ≡ length l.runs;
      ready : AreReady l.most l.ready.items;
      number : vec_len l.reports ≡ l.run-index;
      room : length l.runs ≤ vec_capacity l.reports;
      refused : AreRefused l.settings.trigger → All IsRefused l.reports.items × (l.store ≡ l.fn.store);
      reported : AreReported (AreRefused l.settings.trigger) (plain_reading (g.E.Encode.rendering l.encoder)) (take l.run-index l.runs) l.reports.items (disk l.fn.store) (disk l.store);
      did : DidRuns (Begins l.settings.trigger) (plain_reading (g.E.Encode.rendering l.encoder)) (kept_anew l.settings.roller) (string_bytes l.settings.path) (take l.run-index l.runs) l.reports.items (disk l.fn.store) (disk l.store);
    }
