-- What the settings of a component ask for, as plain data.
use Rattle.std.specs.Prelude.{ℕ, Bool, List, string_bytes}
use Rattle.log4rs_base.specs.declared.target.Target.{Target}
use Rattle.log4rs_settings.specs.declared.plan.EncoderPlan.{EncoderPlan as EncoderValue}
use Rattle.log4rs_settings.specs.declared.plan.EncoderPlan.TheVariants as encoders
use Rattle.log4rs_settings.specs.declared.plan.TriggerPlan.{TriggerPlan}
use Rattle.log4rs_settings.specs.declared.plan.WindowPlan.{WindowPlan}
use Rattle.log4rs_settings.specs.declared.plan.RollerPlan.{RollerPlan as RollerValue}
use Rattle.log4rs_settings.specs.declared.plan.RollerPlan.TheVariants as rollers
use Rattle.log4rs_settings.specs.declared.plan.PolicyPlan.{PolicyPlan as PolicyValue}
use Rattle.log4rs_settings.specs.declared.plan.AppenderPlan.{AppenderPlan as AppenderValue}
use Rattle.log4rs_settings.specs.declared.plan.AppenderPlan.TheVariants as appenders

-- an encoder: of a pattern, of JSON, or one that was handed in
pub data EncoderPlan : Type 0 where
  pattern : List ℕ → EncoderPlan
  json : EncoderPlan
  handed_encoder : EncoderPlan

-- a window of archives
pub record Window : Type 0 where
  pub pattern : List ℕ
  pub base : ℕ
  pub count : ℕ
  -- whether rollings go on in the background
  pub background : Bool

-- a roller: one that removes the file, or one that keeps a window
pub data RollerPlan : Type 0 where
  delete : RollerPlan
  fixed_window : Window → RollerPlan

-- a trigger and a roller
pub record PolicyPlan : Type 0 where
  pub trigger : TriggerPlan
  pub roller : RollerPlan

-- an appender of a kind, or one that was handed in
pub data AppenderPlan : Type 0 where
  console : Target → Bool → EncoderPlan → AppenderPlan
  file : List ℕ → Bool → EncoderPlan → AppenderPlan
  rolling_file : List ℕ → Bool → EncoderPlan → PolicyPlan → AppenderPlan
  handed_appender : AppenderPlan

-- the plans that values of the code stand for
abbrev pub encoder_of : EncoderValue → EncoderPlan
encoder_of (encoders.Pattern text) = pattern (string_bytes text)
encoder_of encoders.Json = json
encoder_of encoders.HandedIn = handed_encoder

abbrev pub window_of : WindowPlan → Window
window_of w = record {
  pattern = string_bytes w.pattern;
  base = w.base;
  count = w.count;
  background = w.background;
}

abbrev pub roller_of : RollerValue → RollerPlan
roller_of rollers.Delete = delete
roller_of (rollers.FixedWindow window) = fixed_window (window_of window)

abbrev pub policy_of : PolicyValue → PolicyPlan
policy_of p = record { trigger = p.trigger; roller = roller_of p.roller }

abbrev pub appender_of : AppenderValue → AppenderPlan
appender_of (appenders.Console target tty_only encoder) =
    console target tty_only (encoder_of encoder)
appender_of (appenders.File path append encoder) =
    file (string_bytes path) append (encoder_of encoder)
appender_of (appenders.RollingFile path append encoder policy) =
    rolling_file (string_bytes path) append (encoder_of encoder) (policy_of policy)
appender_of appenders.HandedIn = handed_appender
