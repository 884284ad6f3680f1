-- What the settings of appenders ask for: an appender's own settings, its encoder, then its policy.
use Rattle.std.specs.Prelude.{ℕ, true, false, List, [], ◌∷◌, codes, Option, Some, None, Result, Ok}
use Rattle.std.specs.Prelude.{if◌then◌else◌}
use Rattle.std.specs.Str.{bytes_eq}
use Rattle.log4rs_settings.specs.Data.{Data, text, Members}
use Rattle.log4rs_settings.specs.Fields.{◌>>=◌}
use Rattle.log4rs_settings.specs.Part.{Part, required, optional, fields_of}
use Rattle.log4rs_settings.specs.Values.{as_text, as_bool}
use Rattle.log4rs_settings.specs.Component.{component_at}
use Rattle.log4rs_settings.specs.Makers.{Kinds}
use Rattle.log4rs_settings.specs.Plan.{AppenderPlan, console, file, rolling_file, handed_appender}
use Rattle.log4rs_settings.specs.Rules.{encoder_at, source_of, encoder_plan}
use Rattle.log4rs_settings.specs.Policies.{policy_plan}
use Rattle.log4rs_base.specs.declared.target.Target.{Target}
use Rattle.log4rs_base.specs.declared.target.Target.TheVariants.{Stdout, Stderr}
use Rattle.log4rs_settings.specs.declared.plan.Waiting.{Waiting}
use Rattle.log4rs_settings.specs.declared.plan.Source.{Source}
use Rattle.log4rs_settings.specs.declared.plan.Source.TheVariants.{Made, HandedIn as handed}
use Rattle.log4rs_settings.specs.declared.makers.Maker.TheVariants as maker

-- a stream by its name
abbrev pub as_target : Data → Option Target
as_target (text s) =
    if bytes_eq s (codes "stdout") then Some Stdout
    else (if bytes_eq s (codes "stderr") then Some Stderr else None)
as_target _ = None

-- the stream of a console
abbrev pub target_at : Members → Result Target Part
target_at ms = optional (codes "target") as_target Stdout ms

module _ (kinds : Kinds) where
  abbrev pub console_plan : Waiting → Data → Result AppenderPlan Part
  console_plan waiting d =
      fields_of (codes "appender")
      (codes "target" ∷ codes "encoder" ∷ codes "tty_only" ∷ []) d >>= (λ ms.
      target_at ms >>= (λ target.
      encoder_at ms >>= (λ e.
      optional (codes "tty_only") as_bool false ms >>= (λ tty_only.
      encoder_plan kinds waiting.encoders e >>= (λ encoder.
      Ok (console target tty_only encoder))))))

  abbrev pub file_plan : Waiting → Data → Result AppenderPlan Part
  file_plan waiting d =
      fields_of (codes "appender")
      (codes "path" ∷ codes "encoder" ∷ codes "append" ∷ []) d >>= (λ ms.
      required (codes "path") as_text ms >>= (λ path.
      encoder_at ms >>= (λ e.
      optional (codes "append") as_bool true ms >>= (λ append.
      encoder_plan kinds waiting.encoders e >>= (λ encoder.
      Ok (file path append encoder))))))

  abbrev pub rolling_plan : Waiting → Data → Result AppenderPlan Part
  rolling_plan waiting d =
      fields_of (codes "appender")
      (codes "path" ∷ codes "policy" ∷ codes "encoder" ∷ codes "append" ∷ []) d >>= (λ ms.
      required (codes "path") as_text ms >>= (λ path.
      component_at (Some (codes "compound")) (codes "policy") ms >>= (λ p.
      encoder_at ms >>= (λ e.
      optional (codes "append") as_bool true ms >>= (λ append.
      encoder_plan kinds waiting.encoders e >>= (λ encoder.
      policy_plan kinds waiting.triggers p >>= (λ policy.
      Ok (rolling_file path append encoder policy))))))))

  -- an appender of these settings
  abbrev pub appender_from : Waiting → Data → Source → Result AppenderPlan Part
  appender_from waiting d handed = Ok handed_appender
  appender_from waiting d (Made maker.Console) = console_plan waiting d
  appender_from waiting d (Made maker.File) = file_plan waiting d
  appender_from waiting d (Made _) = rolling_plan waiting d

  abbrev pub appender_plan : Waiting → List ℕ → Data → Result AppenderPlan Part
  appender_plan waiting kind config =
      source_of kinds (codes "appender") waiting.appenders kind >>= appender_from waiting config
