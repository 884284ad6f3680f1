-- What the settings of policies, triggers and rollers ask for.
use Rattle.std.specs.Prelude.{ℕ, ◌^◌, pos, false, int_lt, [], ◌∷◌, codes, None, Result, Ok, Err}
use Rattle.std.specs.Prelude.{if◌then◌else◌}
use Rattle.log4rs_settings.specs.Data.{Data, Members}
use Rattle.log4rs_base.specs.Interval.{number_of}
use Rattle.log4rs_base.specs.declared.dates.interval.TimeTriggerInterval.{TimeTriggerInterval}
use Rattle.log4rs_settings.specs.Fault.{bad_interval}
use Rattle.log4rs_settings.specs.Fields.{◌>>=◌}
use Rattle.log4rs_settings.specs.Part.{Part, within, of_object, required, optional}
use Rattle.log4rs_settings.specs.Part.{fields_of}
use Rattle.log4rs_settings.specs.Values.{as_text, as_bool, as_whole, as_size, as_interval}
use Rattle.log4rs_settings.specs.Component.{Component, component_at}
use Rattle.log4rs_settings.specs.Makers.{Kinds}
use Rattle.log4rs_settings.specs.Plan.{RollerPlan, delete, fixed_window, PolicyPlan}
use Rattle.log4rs_settings.specs.Rules.{source_of}
use Rattle.log4rs_settings.specs.declared.plan.TriggerPlan.{TriggerPlan}
use Rattle.log4rs_settings.specs.declared.plan.TriggerPlan.TheVariants.{Size, Time, OnStartUp}
use Rattle.log4rs_settings.specs.declared.plan.TriggerPlan.TheVariants.{HandedIn as handed_trigger}
use Rattle.log4rs_settings.specs.declared.plan.Source.{Source}
use Rattle.log4rs_settings.specs.declared.plan.Source.TheVariants.{Made, HandedIn as handed}
use Rattle.log4rs_settings.specs.declared.makers.Maker.TheVariants as maker

-- an interval, whose number must be at least 1
abbrev pub counted : TimeTriggerInterval → Result TimeTriggerInterval Part
counted interval =
    within (codes "interval")
    (if int_lt (pos 0) (number_of interval) then Ok interval else Err (of_object bad_interval))

-- a trigger by time: the number of its interval is looked at last
abbrev pub time_from : Members → Result TriggerPlan Part
time_from ms =
    required (codes "interval") as_interval ms >>= (λ told.
    optional (codes "modulate") as_bool false ms >>= (λ modulate.
    optional (codes "max_random_delay") (as_whole (2 ^ 64)) 0 ms >>= (λ delay.
    counted told >>= (λ interval.
    Ok (Time (record { interval = interval; modulate = modulate; max_random_delay = delay }))))))

-- a trigger of these settings
abbrev pub trigger_from : Data → Source → Result TriggerPlan Part
trigger_from d handed = Ok handed_trigger
trigger_from d (Made maker.Size) =
    fields_of (codes "trigger") (codes "limit" ∷ []) d >>= (λ ms.
    required (codes "limit") as_size ms >>= (λ limit.
    Ok (Size limit)))
trigger_from d (Made maker.Time) =
    fields_of (codes "trigger")
    (codes "interval" ∷ codes "modulate" ∷ codes "max_random_delay" ∷ []) d
    >>= time_from
trigger_from d (Made _) =
    fields_of (codes "trigger") (codes "min_size" ∷ []) d >>= (λ ms.
    optional (codes "min_size") (as_whole (2 ^ 64)) 1 ms >>= (λ least.
    Ok (OnStartUp least)))

-- a roller of these settings
abbrev pub roller_from : Data → Source → Result RollerPlan Part
roller_from d (Made maker.FixedWindow) =
    fields_of (codes "roller")
    (codes "pattern" ∷ codes "count" ∷ codes "base" ∷ codes "background" ∷ []) d >>= (λ ms.
    required (codes "pattern") as_text ms >>= (λ pattern.
    required (codes "count") (as_whole (2 ^ 32)) ms >>= (λ count.
    optional (codes "base") (as_whole (2 ^ 32)) 0 ms >>= (λ base.
    optional (codes "background") as_bool false ms >>= (λ background.
    Ok (fixed_window (record {
      pattern = pattern;
      base = base;
      count = count;
      background = background;
    })))))))
roller_from d _ = fields_of (codes "roller") [] d >>= (λ _. Ok delete)

module _ (kinds : Kinds) where
  -- a trigger and a roller: by its own settings, and as a part of those of an appender
  abbrev pub trigger_in : ℕ → Component → Result TriggerPlan Part
  trigger_in waiting c = source_of kinds (codes "trigger") waiting c.kind >>= trigger_from c.config

  abbrev pub trigger_plan : ℕ → Component → Result TriggerPlan Part
  trigger_plan waiting c = within (codes "policy.trigger") (trigger_in waiting c)

  abbrev pub roller_in : Component → Result RollerPlan Part
  roller_in c = source_of kinds (codes "roller") 0 c.kind >>= roller_from c.config

  abbrev pub roller_plan : Component → Result RollerPlan Part
  roller_plan c = within (codes "policy.roller") (roller_in c)

  -- a policy's own settings: its trigger and its roller
  abbrev pub halves_of : Component → Result (Component × Component) Part
  halves_of c =
      source_of kinds (codes "policy") 0 c.kind >>= (λ _.
      fields_of (codes "policy") (codes "trigger" ∷ codes "roller" ∷ []) c.config >>= (λ ms.
      component_at None (codes "trigger") ms >>= (λ trigger.
      component_at None (codes "roller") ms >>= (λ roller.
      Ok (trigger, roller)))))

  -- a policy's own settings, then those of its trigger, then those of its roller
  abbrev pub policy_plan : ℕ → Component → Result PolicyPlan Part
  policy_plan waiting c =
      within (codes "policy") (halves_of c) >>= (λ halves.
      trigger_plan waiting halves.0 >>= (λ trigger.
      roller_plan halves.1 >>= (λ roller.
      Ok (record { trigger = trigger; roller = roller }))))
