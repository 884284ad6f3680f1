-- What doors tell of the steps that were made on them.
use Rattle.std.specs.Prelude.{◌≡◌, ◌≢◌, ℕ, List, [], ◌∷◌, ◌++◌, map, Option, Some, None, Result, Ok, Err, MatchResult}
use Rattle.log4rs_base.specs.declared.record.Record.{Record}
use Rattle.log4rs_base.specs.declared.record.Context.{Context}
use Rattle.log4rs_config.specs.Destinations.{Outcome}
use Rattle.log4rs_config.specs.Answer.{faults}
use Rattle.log4rs_config.specs.declared.delivery.AppendError.{AppendError}
use Rattle.log4rs_config.specs.declared.delivery.CoreError.{CoreError}
use Rattle.log4rs_config.specs.declared.delivery.CoreError.TheVariants.{Memory, Appenders}

-- an appender's place, what was appended there, and what it answered
pub record Step : Type 0 where
  pub place : ℕ
  pub logged : Record
  pub context : Context
  pub answer : Outcome

-- deliveries of one record, each a place and its answer, as steps
abbrev pub steps_of : Record → Context → List (ℕ × Outcome) → List Step
steps_of logged context deliveries =
    map (λ d. record { place = d.0; logged = logged; context = context; answer = d.1 }) deliveries

-- the record was delivered once to each place, in order;
-- where steps are told, these are the steps that were made
pub record AreDeliveries
    (places : List ℕ) (logged : Record) (context : Context) (told : Type 0)
    (before after : List Step) (deliveries : List (ℕ × Outcome)) : Type 0 where
  pub at_places : map (λ d. d.0) deliveries ≡ places
  pub steps : told → after ≡ before ++ steps_of logged context deliveries

-- a fault as it is told: that of an appender, with its place, or none if memory was refused
abbrev pub Fault : Type 0
Fault = Option AppendError

-- the record was delivered, and each answer noted, in order, after those before;
-- or memory was refused: no step was made, and nothing noted
abbrev pub DeliversNoting : {E : Type 0} → List ℕ → Record → Context → Type 0
    → List Step → List Step → (List (ℕ × Outcome) → Type 0) → (List (ℕ × Outcome) → Type 0)
    → Result (Unit {0}) E → Type 0
DeliversNoting places logged context told before after noted notes result =
    (earlier : List (ℕ × Outcome)) → noted earlier → MatchResult result
    (λ _. (deliveries : List (ℕ × Outcome))
    × AreDeliveries places logged context told before after deliveries
    × notes (earlier ++ deliveries))
    (λ _. (told → after ≡ before) × notes earlier)

-- the record was delivered, and the fault of each failed append told once, in order, after those
-- before; or memory was refused: no step was made, and that was told
abbrev pub DeliversTelling : {E : Type 0} → List ℕ → Record → Context → Type 0
    → List Step → List Step → (List Fault → Type 0) → (List Fault → Type 0)
    → Result (Unit {0}) E → Type 0
DeliversTelling places logged context told before after heard hears result =
    (earlier : List Fault) → heard earlier → MatchResult result
    (λ _. (deliveries : List (ℕ × Outcome))
    × AreDeliveries places logged context told before after deliveries
    × hears (earlier ++ map Some (faults deliveries)))
    (λ _. (told → after ≡ before) × hears (earlier ++ None ∷ []))

-- the record was delivered, and the answer is the faults;
-- or memory was refused, and no step was made
abbrev pub Delivers : List ℕ → Record → Context → Type 0
    → List Step → List Step → Result (Unit {0}) CoreError → Type 0
Delivers places logged context told before after (Ok _) =
    (deliveries : List (ℕ × Outcome))
    × AreDeliveries places logged context told before after deliveries
    × (faults deliveries ≡ [])
Delivers places logged context told before after (Err Memory) = told → after ≡ before
Delivers places logged context told before after (Err (Appenders errors)) =
    (deliveries : List (ℕ × Outcome))
    × AreDeliveries places logged context told before after deliveries
    × (errors.items ≡ faults deliveries)
    × (errors.items ≢ [])
