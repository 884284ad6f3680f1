use Rattle.std.proofs.Common.{ap, sym, ◌∙◌, Err}
use Rattle.std.specs.Prelude.{is_ok}
use Rattle.log4rs_command.proofs.LogsLemmas.{is_memory, was_found}
use Rattle.log4rs_command.proofs.memory.CoreOfLogRecords.log_record.Goals as goal

pub returns-in-Ok : goal.returns-in-Ok
returns-in-Ok g c = record {
  answer = c.log.result;
  answered = c.log.ensures.answer;
  found = was_found c.log.result (ap is_memory c.in-Ok.is);
  well = sym (ap is_ok c.in-Ok.is);
  routes = c.log.ensures.routes;
}

pub returns-in_ok-print_faults-in-Err-Appenders : goal.returns-in_ok-print_faults-in-Err-Appenders
returns-in_ok-print_faults-in-Err-Appenders g c = record {
  answer = c.log.result;
  answered = c.log.ensures.answer;
  found = was_found c.log.result (ap is_memory (c.in-Err-Appenders.is ∙ ap Err c.in-Err-Appenders.field-0-is));
  well = sym (ap is_ok c.in-Err-Appenders.is);
  routes = c.log.ensures.routes;
}
