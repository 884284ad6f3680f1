use Rattle.std.proofs.Common.{All, ◌≡◌, ◌≤◌, vec_len, vec_capacity}
use Rattle.log4rs_restarts.specs.Sessions.{IsEmpty}
use Rattle.log4rs_restarts.specs.Runs.{IsRefused}
use Rattle.log4rs_restarts.proofs.by_settings.refused.Given as goal

-- so many reports, each of a run that did nothing
abbrev pub invariant-loop : goal.invariant-loop
invariant-loop l =
    record {
      number : vec_len l.runs ≡ l.counter;
      room : l.number ≤ vec_capacity l.runs;
      refused : All IsRefused l.runs.items;
      empty : All IsEmpty l.runs.items;
    }
