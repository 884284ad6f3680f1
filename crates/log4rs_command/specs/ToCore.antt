-- A record that is logged to a core.
use Rattle.std.specs.Prelude.{◌≡◌, ◌≢◌, Bool, List, Result, Err, is_ok}
use Rattle.log4rs_base.specs.declared.record.Context.{Context}
use Rattle.log4rs_base.specs.declared.record.Record.{Record}
use Rattle.log4rs_append.specs.Sink.{Sink}
use Rattle.log4rs_config.specs.Destinations.{RoutesAlike}
use Rattle.log4rs_config.specs.Routing.{deliveries}
use Rattle.log4rs_config.specs.Settings.{Settings}
use Rattle.log4rs_config.specs.Answer.{IsAnswer}
use Rattle.log4rs_config.specs.declared.delivery.CoreError.{CoreError}
use Rattle.log4rs_config.specs.declared.delivery.CoreError.TheVariants.{Memory}

-- what is told of it, by what is seen of the core:
-- its answer, memory for it, whether each append was well, and that it routes as before
pub record LogsRecord
    {C : Type 0} (settings : C → Settings) (admits : C → Record → List Bool) (sinks : C → List Sink)
    (before : C) (r : Record) (c : Context) (is_well : Bool) (after : C) : Type 0 where
  pub answer : Result Unit CoreError
  pub answered : IsAnswer r c (deliveries (settings before) (admits before) r) answer
      (sinks before) (sinks after)
  pub found : answer ≢ Err Memory
  pub well : is_well ≡ is_ok answer
  pub routes : RoutesAlike settings admits before after
