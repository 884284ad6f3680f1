-- What a run logs.
use Rattle.std.specs.Prelude.{◌≡◌, ◌≢◌, ◌==◌, List, All, Result, Err, is_ok, length}
use Rattle.std.specs.List.{list_all}
use Rattle.log4rs_base.specs.Text.{Text}
use Rattle.log4rs_base.specs.declared.record.Entry.{Entry}
use Rattle.log4rs_append.specs.Sink.{Sink}
use Rattle.log4rs_config.specs.Routing.{Deliveries}
use Rattle.log4rs_config.specs.Answers.{AreAnswers}
use Rattle.log4rs_config.specs.declared.delivery.CoreError.{CoreError}
use Rattle.log4rs_config.specs.declared.delivery.CoreError.TheVariants.{Memory}
use Rattle.log4rs_command.specs.Entry.{AreEntries}
use Rattle.log4rs_command.specs.declared.seen.Seen.{Seen}

-- the records of these lines were logged, one after another, each with memory for it;
-- whether each line told of a record, and whether each append was well
pub record Logs
    (deliveries : Deliveries) (lines : List Text)
    (before after : List Sink) (seen : Seen) : Type 0 where
  pub entries : List Entry
  pub answers : List (Result Unit CoreError)
  pub of_lines : AreEntries lines entries
  pub answered : AreAnswers deliveries entries answers before after
  pub found : All (λ answer. answer ≢ Err Memory) answers
  pub all_read : seen.all_read ≡ (length entries == length lines)
  pub all_logged : seen.all_logged ≡ list_all is_ok answers
