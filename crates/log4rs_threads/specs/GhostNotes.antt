-- Steps as they were made, faults as they were told, and how the logic stores them.
use Rattle.std.specs.Prelude.{ℕ, List}
use Rattle.std.specs.Option.{option_map}
use mathlib.Core.Path.{refl}
use base.Stored.{coded_unit}
use denote.Signature.{static_lft}
use Rattle.std.specs.Coded.{Coded, code_by, coded_ℕ, coded_list, coded_option, coded×, coded_result}
use Rattle.log4rs_base.specs.contracts.record.Entry.{the_row as entry_row}
use Rattle.log4rs_base.specs.contracts.error.LogError.{the_row as error_row}
use Rattle.log4rs_config.specs.contracts.delivery.AppendError.{the_row as append_row}
use Rattle.log4rs_base.specs.declared.record.Entry.{Entry}
use Rattle.log4rs_config.specs.Destinations.{Outcome}
use Rattle.log4rs_threads.specs.Steps.{Fault, Step}
use Rattle.log4rs_threads.specs.declared.ghost_notes.Made.{Made}
use Rattle.log4rs_threads.specs.declared.ghost_notes.Told.{Told}

-- a step that was made with these references
abbrev pub step_made : Made → Step
step_made made = record {
  place = made.at;
  logged = made.logged.now;
  context = made.context.now;
  answer = made.answer.now;
}

-- a step as the logic stores it: its place, what was logged, and the answer
abbrev Parts : Type 0
Parts = ℕ × (Entry × Outcome)

abbrev parts_of : Step → Parts
parts_of step =
    (step.place, (record { logged = step.logged; context = step.context }, step.answer))

abbrev step_from : Parts → Step
step_from parts =
    record {
      place = parts.0;
      logged = parts.1.0.logged;
      context = parts.1.0.context;
      answer = parts.1.1;
    }

abbrev pub steps_coded : Coded (List Step)
steps_coded =
    coded_list (code_by Parts
    (coded× coded_ℕ (coded× (entry_row static_lft).coded (coded_result coded_unit error_row.coded)))
    parts_of step_from (λ _. refl))

-- a fault that was told with this reference
abbrev pub fault_told : Told → Fault
fault_told told = option_map (λ error. error.now) told.fault

abbrev pub faults_coded : Coded (List Fault)
faults_coded = coded_list (coded_option append_row.coded)
