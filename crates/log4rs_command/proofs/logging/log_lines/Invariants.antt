use Rattle.std.proofs.Common.{List}
use Rattle.std.specs.Option.{option_map}
use Rattle.log4rs_base.specs.Text.{Text}
use Rattle.log4rs_command.specs.Arguments.{plain_of}
use Rattle.log4rs_command.specs.EachLine.{LogsLines}
use Rattle.log4rs_command.specs.Entry.{IsContext}
use Rattle.log4rs_command.specs.Input.{Takes}
use Rattle.log4rs_command.proofs.logging.log_lines.Given as goal

abbrev pub invariant-loop-number : goal.invariant-loop-number
invariant-loop-number g l =
    record {
      context : IsContext l.context;
      logs : (lines : List Text) × Takes (g.R.Read.remaining l.initial.input) (g.R.Read.remaining l.input) lines
          × LogsLines g.L.LogRecords.logs (option_map plain_of l.plain) lines l.initial.logger l.logger l.all;
    }
