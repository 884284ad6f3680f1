-- What was handed in for appenders and waits to be taken.
use Rattle.std.specs.Prelude.{List, [], ◌∷◌, ◌++◌}
use Rattle.log4rs_base.specs.Text.{Text}
use Rattle.log4rs_settings.specs.Plan.{EncoderPlan, handed_encoder, AppenderPlan, console, file}
use Rattle.log4rs_settings.specs.Plan.{rolling_file, handed_appender}
use Rattle.log4rs_settings.specs.declared.plan.FilterPlan.{FilterPlan}
use Rattle.log4rs_settings.specs.declared.plan.TriggerPlan.{TriggerPlan}
use Rattle.log4rs_settings.specs.declared.plan.TriggerPlan.TheVariants.{HandedIn as handed_trigger}
use Rattle.log4rs_settings.specs.declared.plan.Waiting.{Waiting}
use Rattle.log4rs_parts.specs.Filters.{left_by}
use Rattle.log4rs_parts.specs.NamedParts.{parts_in, count_for, without_first}
use Rattle.log4rs_parts.specs.declared.handed.Handed.{Handed}
use Rattle.log4rs_parts.specs.declared.handed.HandedInOf.{HandedInOf}
use Rattle.log4rs_parts.specs.declared.handed.HandedInOf.TheVariants.{Appender, Filter, Encoder}
use Rattle.log4rs_parts.specs.declared.handed.HandedInOf.TheVariants.{Trigger}

-- the components of each class, each with the name of its appender, the earliest first
pub record Waits (A F E T : Type 0) : Type 0 where
  pub appenders : List (Text × A)
  pub filters : List (Text × F)
  pub encoders : List (Text × E)
  pub triggers : List (Text × T)

-- an encoder of a plan takes the earliest that waits for the name,
-- where it was to be handed in, and a trigger likewise
abbrev pub encoders_left : {E : Type 0} → Text → EncoderPlan → List (Text × E) → List (Text × E)
encoders_left name handed_encoder waiting = without_first name waiting
encoders_left name _ waiting = waiting

abbrev pub triggers_left : {T : Type 0} → Text → TriggerPlan → List (Text × T) → List (Text × T)
triggers_left name handed_trigger waiting = without_first name waiting
triggers_left name _ waiting = waiting

module _ {A F E T : Type 0} where
  -- nothing was handed in
  abbrev pub no_waits : Waits A F E T
  no_waits = record { appenders = []; filters = []; encoders = []; triggers = [] }

  abbrev pub waits_in : Handed A F E T → Waits A F E T
  waits_in h =
      record {
        appenders = parts_in h.appenders;
        filters = parts_in h.filters;
        encoders = parts_in h.encoders;
        triggers = parts_in h.triggers;
      }

  -- how many wait for the appender of a name
  abbrev pub waiting_for : Handed A F E T → Text → Waiting
  waiting_for h name = record {
    appenders = count_for name (parts_in h.appenders);
    filters = count_for name (parts_in h.filters);
    encoders = count_for name (parts_in h.encoders);
    triggers = count_for name (parts_in h.triggers);
  }

  -- a component more, the latest of its class
  abbrev pub with_part : Text → HandedInOf A F E T → Waits A F E T → Waits A F E T
  with_part name (Appender a) w = record w { appenders = w.appenders ++ (name, a) ∷ [] }
  with_part name (Filter f) w = record w { filters = w.filters ++ (name, f) ∷ [] }
  with_part name (Encoder e) w = record w { encoders = w.encoders ++ (name, e) ∷ [] }
  with_part name (Trigger t) w = record w { triggers = w.triggers ++ (name, t) ∷ [] }

  -- what an appender leaves that is asked for by a plan:
  -- its filters, and its encoder and trigger or itself, are taken
  abbrev pub behind_left : Text → AppenderPlan → Waits A F E T → Waits A F E T
  behind_left name (console target tty_only encoder) w =
      record w { encoders = encoders_left name encoder w.encoders }
  behind_left name (file path append encoder) w =
      record w { encoders = encoders_left name encoder w.encoders }
  behind_left name (rolling_file path append encoder policy) w =
      record w {
        encoders = encoders_left name encoder w.encoders;
        triggers = triggers_left name policy.trigger w.triggers;
      }
  behind_left name handed_appender w = record w { appenders = without_first name w.appenders }

  abbrev pub left_of : Text → List FilterPlan → AppenderPlan → Waits A F E T → Waits A F E T
  left_of name filters plan w =
      behind_left name plan (record w { filters = left_by name filters w.filters })
