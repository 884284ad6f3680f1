use Rattle.std.proofs.Common.{◌≡◌, ◌≤◌, take, length, string_bytes, vec_len, vec_capacity}
use Rattle.log4rs_restarts.specs.ActsDone.{ActsDone}
use Rattle.log4rs_restarts.specs.Moments.{moment}
use Rattle.log4rs_restarts.specs.Reports.{SameCounts}
use Rattle.log4rs_append.specs.Sink.{plain_reading}
use Rattle.log4rs_restarts.proofs.runs.act_all.Given as goal

-- the acts so far were done; the file and what records read as stay, and there is room for each act to come
abbrev pub invariant-loop-act : goal.invariant-loop-act
invariant-loop-act g l =
    let disk = g.S.Store.disk in
    let its_path = string_bytes l.fn.file.log.path in
    record {
      append : l.file.append ≡ l.fn.file.append;
      path : string_bytes l.file.log.path ≡ its_path;
      reading : plain_reading (g.E.Encode.rendering l.file.encoder) ≡ plain_reading (g.E.Encode.rendering l.fn.file.encoder);
      did : ActsDone (plain_reading (g.E.Encode.rendering l.fn.file.encoder)) its_path (take l.act-index l.acts) l.report.outcomes.items l.report.answers.items (moment disk l.fn.file) (moment disk l.file);
      opening : l.report.opening ≡ l.fn.report.opening;
      counts : SameCounts l.fn.report l.report;
      number : vec_len l.report.outcomes ≡ l.act-index;
      number_of_answers : vec_len l.report.answers ≤ l.act-index;
      room : length l.acts ≤ vec_capacity l.report.outcomes;
      room_of_answers : length l.acts ≤ vec_capacity l.report.answers;
    }
