-- What stands behind the filters of an appender does not depend on the filters that wait.
use Rattle.std.proofs.Common.{List, Option}
use Rattle.log4rs_rolling.specs.Change.{Files}
use Rattle.log4rs_rolling.specs.Disk.{Disk}
use Rattle.log4rs_base.specs.Text.{Text}
use Rattle.log4rs_rolling.specs.declared.store.Store as Store
use Rattle.log4rs_encode.specs.Encoders.{ToldRendering}
use Rattle.log4rs_encode.specs.declared.encoder.EncoderOf.{EncoderOf}
use Rattle.log4rs_rolling.specs.declared.policy.CompoundPolicyOf.{CompoundPolicyOf}
use Rattle.log4rs_rolling.specs.declared.policy.Keep as Keep
use Rattle.log4rs_rolling.specs.declared.roll.AnyRoller.{AnyRoller}
use Rattle.log4rs_rolling.specs.declared.trigger.AnyTriggerOf.{AnyTriggerOf}
use Rattle.log4rs_append.specs.declared.any.AppenderOf.TheVariants as appenders
use Rattle.log4rs_settings.specs.Plan.{AppenderPlan, console, file, rolling_file, handed_appender}
use Rattle.log4rs_parts.specs.FromParts.{Behind, IsBehind}
use Rattle.log4rs_plans.specs.declared.surroundings.Surroundings.{Surroundings}

module _ {A E T S : Type 0} {store : Store.Ghosts S} {keep : Keep.Ghosts (CompoundPolicyOf (AnyTriggerOf T) AnyRoller) S}
    (custom : E → ToldRendering) (rendering : EncoderOf E → ToldRendering) (disk : S → Disk) where
  pub with_other_filters : {F : Type 0} (starts : Option Files) (around : Surroundings) (name : Text) (plan : AppenderPlan)
      (kept : List (Text × A)) (filters others : List (Text × F)) (encoders : List (Text × E)) (triggers : List (Text × T)) (made : Behind A E T S store keep)
      → IsBehind custom rendering disk starts around name plan (record { appenders = kept; filters = filters; encoders = encoders; triggers = triggers }) made
      → IsBehind custom rendering disk starts around name plan (record { appenders = kept; filters = others; encoders = encoders; triggers = triggers }) made
  with_other_filters starts around name (console target tty_only encoder) kept filters others encoders triggers (appenders.Console made) h = h
  with_other_filters starts around name (file path append encoder) kept filters others encoders triggers (appenders.File made) h = h
  with_other_filters starts around name (rolling_file path append encoder policy) kept filters others encoders triggers (appenders.Rolling made) h = h
  with_other_filters starts around name handed_appender kept filters others encoders triggers (appenders.Custom made) h = h
  with_other_filters starts around name plan kept filters others encoders triggers made h = h
