-- What is built of a plan, of what was handed in, and of what surrounds it.
use Rattle.std.specs.Prelude.{◌≡◌, ℕ, ◌+◌, nat_le, Bool, false, List, [], ◌∷◌, Option, Some, None}
use Rattle.std.specs.Prelude.{option_map, String, ⊤}
use Rattle.std.specs.Option.{option_and_then}
use Rattle.std.specs.Str.{chars}
use Rattle.std.specs.BTreeMap.{BTreeMap}
use Rattle.std.specs.declared.alloc.Global.{Global}
use Rattle.log4rs_rolling.specs.Change.{Files, opened}
use Rattle.log4rs_rolling.specs.Disk.{Disk, Calls, Does, Begins}
use Rattle.log4rs_base.specs.Text.{Text}
use Rattle.log4rs_base.specs.declared.record.Context.{Context}
use Rattle.log4rs_rolling.specs.declared.store.Store as Store
use Rattle.log4rs_encode.specs.Colors.{shows_color}
use Rattle.log4rs_encode.specs.declared.writer.standard.StdWriter.TheVariants as streams
use Rattle.log4rs_encode.specs.Encoders.{ToldRendering}
use Rattle.log4rs_encode.specs.JsonLine.{json_runs}
use Rattle.log4rs_encode.specs.Rendering.{Renders}
use Rattle.log4rs_encode.specs.declared.encoder.EncoderOf.{EncoderOf}
use Rattle.log4rs_rolling.specs.Archives.{name_at, refusal}
use Rattle.log4rs_rolling.specs.AtOpening.{AskedThenOpened, RollsAtOnce}
use Rattle.log4rs_rolling.specs.Roller.{kept_by_any, fixed_window as window_of}
use Rattle.log4rs_rolling.specs.Keeping.{Keeping, no_archives}
use Rattle.log4rs_rolling.specs.FileChanges.{way}
use Rattle.log4rs_rolling.specs.TimeTriggers.{config_of, next_of}
use Rattle.log4rs_rolling.specs.Triggers.{limit_of, start_up_says}
use Rattle.log4rs_base.specs.declared.error.RollerError.{RollerError}
use Rattle.log4rs_rolling.specs.declared.policy.CompoundPolicyOf.{CompoundPolicyOf}
use Rattle.log4rs_rolling.specs.declared.policy.Keep as Keep
use Rattle.log4rs_rolling.specs.declared.roll.AnyRoller.{AnyRoller}
use Rattle.log4rs_rolling.specs.declared.time_trigger.TimeTrigger.{TimeTrigger}
use Rattle.log4rs_rolling.specs.declared.trigger.AnyTriggerOf.{AnyTriggerOf}
use Rattle.log4rs_rolling.specs.declared.trigger.AnyTriggerOf.TheVariants as triggers
use Rattle.log4rs_rolling.specs.declared.trigger.OnStartUpTrigger.{OnStartUpTrigger}
use Rattle.log4rs_rolling.specs.declared.trigger.SizeTrigger.{SizeTrigger}
use Rattle.log4rs_append.specs.Console.{may_write}
use Rattle.log4rs_append.specs.Console as console_parts
use Rattle.log4rs_append.specs.File as file_parts
use Rattle.log4rs_append.specs.Rolling as rolling_parts
use Rattle.log4rs_append.specs.declared.console.ConsoleAppender.{ConsoleAppender}
use Rattle.log4rs_append.specs.declared.console.console_out.ConsoleOut.{ConsoleOut}
use Rattle.log4rs_append.specs.declared.console.console_out.ConsoleOut.TheVariants.{Std}
use Rattle.log4rs_append.specs.declared.file.FileAppender.{FileAppender}
use Rattle.log4rs_append.specs.declared.rolling_file.RollingFileAppender.{RollingFileAppender}
use Rattle.log4rs_settings.specs.Plan.{EncoderPlan, pattern, json, handed_encoder, RollerPlan}
use Rattle.log4rs_settings.specs.Plan.{delete, fixed_window}
use Rattle.log4rs_base.specs.declared.target.Target.{Target}
use Rattle.log4rs_base.specs.declared.target.Target.TheVariants.{Stdout, Stderr}
use Rattle.log4rs_settings.specs.declared.plan.TriggerPlan.{TriggerPlan}
use Rattle.log4rs_settings.specs.declared.plan.TriggerPlan.TheVariants.{Size, Time, OnStartUp}
use Rattle.log4rs_settings.specs.declared.plan.TriggerPlan.TheVariants.{HandedIn as handed_trigger}
use Rattle.log4rs_parts.specs.NamedParts.{first_for}
use Rattle.log4rs_plans.specs.declared.surroundings.Surroundings.{Surroundings}
use Rattle.log4rs_parts.specs.declared.build_appender.Refusal.{Refusal}
use Rattle.log4rs_parts.specs.declared.build_appender.Refusal.TheVariants.{Roller}

-- an encoder of a plan renders as its pattern says, as JSON,
-- or as the earliest that waits for the appender of a name
abbrev pub Encodes : {E : Type 0}
    → (E → ToldRendering) → Text → List (Text × E) → EncoderPlan → ToldRendering → Type 0
Encodes custom name waiting (pattern text) told = Renders (chars text) told
Encodes custom name waiting json told = told ≡ Some json_runs
Encodes custom name waiting handed_encoder told =
    told ≡ option_and_then custom (first_for name waiting)

-- a trigger of a plan was not asked yet, or is the earliest that waits for the appender of a name
abbrev pub IsTrigger : {T : Type 0} → Text → List (Text × T) → TriggerPlan → AnyTriggerOf T → Type 0
IsTrigger name waiting (Size limit) trigger =
    (size : SizeTrigger) × (trigger ≡ triggers.Size size) × (limit_of size ≡ limit)
IsTrigger name waiting (Time config) trigger =
    (time : TimeTrigger)
    × (trigger ≡ triggers.Time time)
    × (config_of time ≡ config)
    × (next_of time ≡ None)
IsTrigger name waiting (OnStartUp least) trigger =
    (start : OnStartUpTrigger)
    × (trigger ≡ triggers.OnStartUp start)
    × ((len : ℕ) (c : Context) → start_up_says start len c ≡ nat_le least len)
IsTrigger name waiting handed_trigger trigger =
    Some trigger ≡ option_map triggers.Custom (first_for name waiting)

-- what a roller of a plan keeps:
-- nothing, or a window whose names have the values of an environment, by renames and copies,
-- or in the background by renames alone
abbrev pub kept_in : BTreeMap (String Global) (String Global) → RollerPlan → Keeping
kept_in env delete = no_archives
kept_in env (fixed_window w) = window_of (name_at w.pattern env) w.base w.count false w.background

-- why no roller can be as planned, if that is so
abbrev pub refused : RollerPlan → Option RollerError
refused delete = None
refused (fixed_window w) = refusal w.pattern (w.base + w.count)

-- a refusal that is not the roller's, and one that may be
abbrev pub IsNoRoller : Refusal → Type 0
IsNoRoller (Roller error) = ⊥
IsNoRoller _ = ⊤

abbrev pub IsOfRoller : RollerPlan → Refusal → Type 0
IsOfRoller plan (Roller error) = refused plan ≡ Some error
IsOfRoller plan _ = ⊤

-- the stream of a console, and whether it is a terminal
abbrev pub stream_in : Surroundings → Target → ConsoleOut
stream_in around Stdout = Std (streams.Stdout around.stdout)
stream_in around Stderr = Std (streams.Stderr around.stderr)

abbrev pub is_tty : Surroundings → Target → Bool
is_tty around Stdout = around.stdout_tty
is_tty around Stderr = around.stderr_tty

module _ {E : Type 0} (rendering : EncoderOf E → ToldRendering) where
  -- a console that renders so, to the stream of a target
  pub record IsConsole
      (around : Surroundings) (target : Target) (tty_only : Bool)
      (told : ToldRendering) (made : ConsoleAppender (EncoderOf E)) : Type 0 where
    pub renders : rendering (console_parts.encoder_of made) ≡ told
    pub out : console_parts.out_of made ≡ stream_in around target
    pub colors : console_parts.shows_colors made ≡ shows_color around.color (is_tty around target)
    pub writes : console_parts.is_writing made ≡ may_write tty_only (is_tty around target)

  module _ {S : Type 0} (disk : S → Disk) where
    -- a file at a path that renders so: a new store opened it, and did nothing else
    pub record IsFile
        {store : Store.Ghosts S} (starts : Option Files) (path : Text) (append : Bool)
        (told : ToldRendering) (made : FileAppender S (EncoderOf E) store) : Type 0 where
      pub renders : rendering (file_parts.encoder_of made) ≡ told
      pub start : Disk
      pub begins : Begins starts start
      pub opens : Does start (disk (file_parts.store_of made)) (opened path (way append) ∷ [])
          start.refusals (Some path)

    -- a rolled file at a path likewise, with a roller as planned
    pub record IsRolling
        {T : Type 0} {store : Store.Ghosts S}
        {keep : Keep.Ghosts (CompoundPolicyOf (AnyTriggerOf T) AnyRoller) S}
        (starts : Option Files) (env : BTreeMap (String Global) (String Global))
        (place : Text) (append : Bool) (roller : RollerPlan) (told : ToldRendering)
        (made : RollingFileAppender S (CompoundPolicyOf (AnyTriggerOf T) AnyRoller) (EncoderOf E)
        store keep) : Type 0 where
      pub renders : rendering (rolling_parts.encoder_of made) ≡ told
      pub path : rolling_parts.path_of made ≡ place
      pub mode : rolling_parts.appends made ≡ append
      -- its roller as it was handed to the opening, and the trigger, which stays
      pub keeps : kept_by_any (rolling_parts.settings_of made).roller ≡ kept_in env roller
      pub trigger
          : (rolling_parts.settings_of made).trigger ≡ (rolling_parts.policy_of made).trigger
      -- what a killed run left of a rolling in the background is brought to its end,
      -- and then the file is opened
      pub start : Disk
      pub begins : Begins starts start
      pub opening : Calls start (disk (rolling_parts.opening_of made)) (λ added. added ≡ [])
      pub opens : AskedThenOpened (kept_in env roller)
          (kept_by_any (rolling_parts.policy_of made).roller) place append
          start (disk (rolling_parts.store_of made))
      -- where it rolls at once, the policy is the one that was handed to the opening
      pub still : RollsAtOnce (kept_in env roller) place
          → rolling_parts.policy_of made ≡ rolling_parts.settings_of made
