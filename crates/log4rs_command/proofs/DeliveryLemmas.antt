-- The failed ones of deliveries.
use Rattle.std.proofs.Common.{◌≡◌, ℕ, List, [], Result, Ok, Err, MatchResult, refl}
use Rattle.log4rs_base.specs.Text.{Text}
use Rattle.log4rs_base.specs.declared.record.Context.{Context}
use Rattle.log4rs_base.specs.declared.record.Record.{Record}
use Rattle.log4rs_config.specs.Destinations.{Outcome}
use Rattle.log4rs_config.specs.declared.delivery.AppendError.{AppendError}
use Rattle.log4rs_config.specs.Answer.{faults}
use Rattle.log4rs_threads.specs.Steps.{AreDeliveries, Step}
use Rattle.log4rs_command.specs.Losses.{AreFailuresAt, Counts, CountsEach, CountsFailures, failed_at}

pub failures_of : {E : Type 0} (r : Result (Unit {0}) E) (places : List ℕ) (logged : Record) (context : Context) (told : Type 0) (before after : List Step)
    (errors : List AppendError) (Kept : Type 0)
    → MatchResult r (λ _. (made : List (ℕ × Outcome)) × AreDeliveries places logged context told before after made × (errors ≡ faults made))
    (λ _. Kept × (errors ≡ faults []))
    → MatchResult r (λ _. AreFailuresAt places errors) (λ _. AreFailuresAt [] errors)
failures_of (Ok _) places logged context told before after errors Kept made = (made.0, made.1.at_places, made.2)
failures_of (Err _) places logged context told before after errors Kept kept = ([], refl, kept.1)

-- whatever came of it, these are failed deliveries at some places
pub some_failures : {E : Type 0} (r : Result (Unit {0}) E) (places : List ℕ) (errors : List AppendError)
    → MatchResult r (λ _. AreFailuresAt places errors) (λ _. AreFailuresAt [] errors) → (at : List ℕ) × AreFailuresAt at errors
some_failures (Ok _) places errors are = (places, are)
some_failures (Err _) places errors are = ([], are)

pub counted : (before after : Counts) (names : List Text) (errors : List AppendError) → (places : List ℕ) × AreFailuresAt places errors
    → CountsEach before after (failed_at names errors) → CountsFailures before after
counted before after names errors are each = (names, are.0, errors, are.1, each)
