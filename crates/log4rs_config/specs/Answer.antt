-- The result of logging a record, and its deliveries.
use Rattle.std.specs.Prelude.{◌≡◌, ◌≢◌, ℕ, List, [], ◌∷◌, Result, Ok, Err}
use Rattle.log4rs_base.specs.declared.record.Record.{Record}
use Rattle.log4rs_base.specs.declared.record.Context.{Context}
use Rattle.log4rs_config.specs.declared.delivery.AppendError.{AppendError}
use Rattle.log4rs_config.specs.declared.delivery.CoreError.{CoreError}
use Rattle.log4rs_config.specs.declared.delivery.CoreError.TheVariants.{Memory, Appenders}
use Rattle.log4rs_append.specs.Sink.{Sink}
use Rattle.log4rs_config.specs.Destinations.{Outcome, AppendedAt}
use Rattle.log4rs_config.specs.Delivery.{AreMade}

-- the failed deliveries, in order
abbrev pub faults : List (ℕ × Outcome) → List AppendError
faults [] = []
faults ((at, Ok _) ∷ made) = faults made
faults ((at, Err fault) ∷ made) = record { appender = at; fault = fault } ∷ faults made

-- each delivery has one result, and these errors are those of the failed ones
abbrev pub Delivered : Record → Context → List ℕ → List AppendError → List Sink → List Sink → Type 0
Delivered r c places errors before after =
    (made : List (ℕ × Outcome))
    × AreMade (AppendedAt r c) places made before after
    × (errors ≡ faults made)

-- all were delivered, or some failed, or nothing was appended
abbrev pub IsAnswer : Record → Context → List ℕ
    → Result Unit CoreError → List Sink → List Sink → Type 0
IsAnswer r c places (Ok _) before after = Delivered r c places [] before after
IsAnswer r c places (Err (Appenders errors)) before after =
    (errors.items ≢ []) × Delivered r c places errors.items before after
IsAnswer r c places (Err Memory) before after = after ≡ before

-- a record was delivered, whatever the result was
abbrev pub Logs : Record → Context → List ℕ → List Sink → List Sink → Type 0
Logs r c places before after =
    (answer : Result Unit CoreError) × IsAnswer r c places answer before after
