use Rattle.std.proofs.Common.{ap, string_bytes, subst}
use Rattle.std.proofs.lemmas.Result.{IfOk-at_ok}
use Rattle.log4rs_command.proofs.EachLineLemmas.{lines_read}
use Rattle.log4rs_command.proofs.file_run.log_by_file.Goals as goal
use Rattle.log4rs_command.specs.ByFile.{AsksFor}

pub returns : goal.returns
returns g c =
    let same = ap g.S.ConfigSource.answers c.in_ok-file.ensures.parts.0 in
    let of_file = subst (λ answers. AsksFor (string_bytes c.in_ok-file.file.path) answers) same c.in_ok-logging.ensures in
    let asked = subst (λ named. AsksFor named (g.S.ConfigSource.answers c.args.access.source)) c.in_ok-file.ensures.path of_file in
    let read = IfOk-at_ok _ c.in_ok-seen.was c.log_lines-logged.ensures in
    record {
      asked = asked;
      lines = read.0;
      of_input = read.1;
      all_read = c.in_ok-seen.seen.all_read;
      failed = c.end-failed.result;
      read = lines_read _ _ read.0 _ _ c.in_ok-seen.seen read.2;
      left_out = c.in_ok-logging.has_left_out;
      well = c.is_well.ensures;
    }
