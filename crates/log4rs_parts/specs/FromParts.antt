-- The appenders that are built of plans.
use Rattle.std.specs.Prelude.{◌≡◌, List, map, Option, Some, None, Result, Ok, Err, ⊤}
use Rattle.log4rs_rolling.specs.Change.{Files}
use Rattle.log4rs_rolling.specs.Disk.{Disk}
use Rattle.log4rs_base.specs.Filtering.{answer_of}
use Rattle.log4rs_base.specs.Text.{Text}
use Rattle.log4rs_base.specs.declared.filter.FilterOf.{FilterOf}
use Rattle.log4rs_rolling.specs.declared.store.Store as Store
use Rattle.log4rs_encode.specs.Encoders.{ToldRendering}
use Rattle.log4rs_encode.specs.declared.encoder.EncoderOf.{EncoderOf}
use Rattle.log4rs_base.specs.Names.{expanded_names}
use Rattle.log4rs_rolling.specs.declared.policy.CompoundPolicyOf.{CompoundPolicyOf}
use Rattle.log4rs_rolling.specs.declared.policy.Keep as Keep
use Rattle.log4rs_rolling.specs.declared.roll.AnyRoller.{AnyRoller}
use Rattle.log4rs_rolling.specs.declared.trigger.AnyTriggerOf.{AnyTriggerOf}
use Rattle.log4rs_append.specs.Rolling.{policy_of}
use Rattle.log4rs_append.specs.declared.any.AppenderOf.{AppenderOf}
use Rattle.log4rs_append.specs.declared.any.AppenderOf.TheVariants as appenders
use Rattle.log4rs_config.specs.Appender.{name_of, appender_of, filters_of}
use Rattle.log4rs_config.specs.declared.runtime.appender.Filtered.{Filtered}
use Rattle.log4rs_settings.specs.Plan.{EncoderPlan, handed_encoder, AppenderPlan, console, file}
use Rattle.log4rs_settings.specs.Plan.{rolling_file, handed_appender}
use Rattle.log4rs_settings.specs.declared.plan.FilterPlan.{FilterPlan}
use Rattle.log4rs_parts.specs.Filters.{Answer, planned_answers, left_by}
use Rattle.log4rs_parts.specs.NamedParts.{first_for}
use Rattle.log4rs_plans.specs.declared.surroundings.Surroundings.{Surroundings}
use Rattle.log4rs_parts.specs.declared.build_appender.Refusal.{Refusal}
use Rattle.log4rs_parts.specs.declared.build_appender.Refusal.TheVariants.{Roller, Store as store_refused}
use Rattle.log4rs_parts.specs.declared.build_appender.Refusal.TheVariants.{Memory}
use Rattle.log4rs_parts.specs.Built.{Encodes, IsTrigger, refused, IsConsole, IsFile}
use Rattle.log4rs_plans.specs.Effective.{path_in}
use Rattle.log4rs_parts.specs.Built.{IsRolling}
use Rattle.log4rs_parts.specs.Waits.{Waits, waits_in, left_of}
use Rattle.log4rs_parts.specs.declared.handed.Handed.{Handed}

-- none of the encoders waits that a plan asks for
abbrev pub LacksEncoder : {E : Type 0} → Text → EncoderPlan → List (Text × E) → Type 0
LacksEncoder name handed_encoder waiting = first_for name waiting ≡ None
LacksEncoder name _ waiting = ⊥

-- why there is no appender: the store of a file refused, no roller can be as planned,
-- or what was to be handed in is not there
abbrev pub CanRefuse : {A F E T : Type 0} → Text → AppenderPlan → Waits A F E T → Refusal → Type 0
CanRefuse name plan waits Memory = ⊤
CanRefuse name (console target tty_only encoder) waits store_refused =
    LacksEncoder name encoder waits.encoders
CanRefuse name handed_appender waits store_refused = first_for name waits.appenders ≡ None
CanRefuse name plan waits store_refused = ⊤
CanRefuse name (rolling_file path append encoder policy) waits (Roller error) =
    refused policy.roller ≡ Some error
CanRefuse name plan waits (Roller error) = ⊥

-- what stands behind the filters of an appender
abbrev pub Behind : (A E T S : Type 0) (store : Store.Ghosts S)
    → Keep.Ghosts (CompoundPolicyOf (AnyTriggerOf T) AnyRoller) S → Type 0
Behind A E T S store keep =
    AppenderOf S (CompoundPolicyOf (AnyTriggerOf T) AnyRoller) (EncoderOf E) A store keep

-- the filters of an appender, of which those that were handed in are taken, and nothing else
abbrev pub BuildsFilters : {A F E T : Type 0} → (F → Answer) → Text → List FilterPlan
    → List (FilterOf F) → Handed A F E T → Handed A F E T → Type 0
BuildsFilters answer name plans made old new =
    (map (answer_of answer) made ≡ planned_answers answer name plans (waits_in old).filters)
    × (waits_in new
    ≡ record (waits_in old) { filters = left_by name plans (waits_in old).filters })

module _ {A E T S : Type 0} {store : Store.Ghosts S}
    {keep : Keep.Ghosts (CompoundPolicyOf (AnyTriggerOf T) AnyRoller) S}
    (custom : E → ToldRendering) (rendering : EncoderOf E → ToldRendering) (disk : S → Disk) where
  -- an appender is as planned, with what waits for its name
  abbrev pub IsBehind : {F : Type 0} → Option Files → Surroundings → Text
      → AppenderPlan → Waits A F E T → Behind A E T S store keep → Type 0
  IsBehind starts around name (console target tty_only encoder) waits (appenders.Console made) =
      (told : ToldRendering)
      × Encodes custom name waits.encoders encoder told
      × IsConsole rendering around target tty_only told made
  IsBehind starts around name (file path append encoder) waits (appenders.File made) =
      (told : ToldRendering)
      × Encodes custom name waits.encoders encoder told
      × IsFile rendering disk starts (path_in around path) append told made
  IsBehind starts around name (rolling_file path append encoder policy)
      waits (appenders.Rolling made) =
      (told : ToldRendering)
      × Encodes custom name waits.encoders encoder told
      × IsTrigger name waits.triggers policy.trigger (policy_of made).trigger
      × IsRolling rendering disk starts around.env (expanded_names around.env path) append
      policy.roller told made
  IsBehind starts around name handed_appender waits (appenders.Custom made) =
      first_for name waits.appenders ≡ Some made
  IsBehind starts around name plan waits made = ⊥

  module _ {F : Type 0} (answer : F → Answer) where
    -- its name, the answers of its filters, and what is behind them
    pub record IsAppender
        (starts : Option Files) (around : Surroundings) (name : Text)
        (plans : List FilterPlan) (plan : AppenderPlan) (waits : Waits A F E T)
        (made : Filtered (Behind A E T S store keep) (FilterOf F)) : Type 0 where
      pub named : name_of made ≡ name
      pub filters :
          map (answer_of answer) (filters_of made) ≡ planned_answers answer name plans waits.filters
      pub behind : IsBehind starts around name plan waits (appender_of made)

    -- an appender or a refusal of a plan; want of memory aside, what it was to take is taken
    abbrev pub IsBuilt : Option Files → Surroundings → Text → List FilterPlan
        → AppenderPlan → Result (Filtered (Behind A E T S store keep) (FilterOf F)) Refusal
        → Handed A F E T → Handed A F E T → Type 0
    IsBuilt starts around name filters plan (Ok made) old new =
        IsAppender starts around name filters plan (waits_in old) made
        × (waits_in new ≡ left_of name filters plan (waits_in old))
    IsBuilt starts around name filters plan (Err Memory) old new = ⊤
    IsBuilt starts around name filters plan (Err refusal) old new =
        CanRefuse name plan (waits_in old) refusal
        × (waits_in new ≡ left_of name filters plan (waits_in old))
