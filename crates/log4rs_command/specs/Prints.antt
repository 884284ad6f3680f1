-- What a run prints.
use Rattle.std.specs.Prelude.{◌≡◌, ℕ, Bool, true, List, [], ◌∷◌, Option, IfSome}
use Rattle.std.specs.Io.KnownBytes.{Appends}
use Rattle.std.specs.List.{concat}
use Rattle.std.specs.Str.{chars}
use Rattle.log4rs_base.specs.Text.{Text}
use Rattle.log4rs_base.specs.declared.record.Record.{Record}
use Rattle.log4rs_append.specs.Sink.{Sink}
use Rattle.log4rs_config.specs.Faults.{faults}
use Rattle.log4rs_config.specs.Routing.{deliveries}
use Rattle.log4rs_command.specs.Arguments.{Setting}
use Rattle.log4rs_command.specs.Input.{lines_of}
use Rattle.log4rs_command.specs.Logs.{Logs}
use Rattle.log4rs_command.specs.Seen.{is_all_well}
use Rattle.log4rs_command.specs.Settings.{configured}
use Rattle.log4rs_command.specs.Sinks.{IsEmptySink, held_in}
use Rattle.log4rs_command.specs.declared.seen.Seen.{Seen}

-- a run by a pattern and settings that came to the end of its input:
-- what it logged, and what it printed of the one sink
pub record Prints
    (pattern : Text) (settings : List Setting)
    (input before after : Option (List ℕ)) (all_well : Bool) : Type 0 where
  pub faultless : faults (configured settings) ≡ []
  -- no filter stands before the appender
  pub admits : Record → List Bool
  pub admitted : (r : Record) → admits r ≡ true ∷ []
  pub lines : List Text
  pub of_input : IfSome input (λ bytes. lines ≡ lines_of bytes)
  pub empty : Sink
  pub is_empty : IsEmptySink (chars pattern) empty
  pub sinks : List Sink
  pub seen : Seen
  pub logs : Logs (deliveries (configured settings) admits) lines (empty ∷ []) sinks seen
  pub well : all_well ≡ is_all_well seen
  pub prints : IfSome (held_in sinks) (λ held. Appends before after (concat held))
