-- What the settings of filters and encoders ask for, and where components come from.
use Rattle.std.specs.Prelude.{ℕ, zero, suc, List, [], ◌∷◌, codes, Option, Some, None, Result, Ok}
use Rattle.std.specs.Prelude.{Err}
use Rattle.log4rs_settings.specs.Data.{Data, Members}
use Rattle.log4rs_settings.specs.Fault.{Fault, unknown_kind}
use Rattle.log4rs_settings.specs.Fields.{◌>>=◌, given}
use Rattle.log4rs_settings.specs.Part.{Part, within, in_object, or_bad, required, optional}
use Rattle.log4rs_settings.specs.Part.{fields_of}
use Rattle.log4rs_settings.specs.Members.{get_member}
use Rattle.log4rs_settings.specs.Values.{as_members, as_text, as_level}
use Rattle.log4rs_settings.specs.Component.{Component, read_encoder}
use Rattle.log4rs_settings.specs.Makers.{Kinds}
use Rattle.log4rs_settings.specs.Plan.{EncoderPlan, pattern, json, handed_encoder}
use Rattle.log4rs_settings.specs.declared.plan.FilterPlan.{FilterPlan}
use Rattle.log4rs_settings.specs.declared.plan.FilterPlan.TheVariants.{Threshold}
use Rattle.log4rs_settings.specs.declared.plan.FilterPlan.TheVariants.{HandedIn as handed_filter}
use Rattle.log4rs_settings.specs.declared.plan.Source.{Source}
use Rattle.log4rs_settings.specs.declared.plan.Source.TheVariants.{Made, HandedIn as handed}
use Rattle.log4rs_settings.specs.declared.makers.Maker.{Maker}
use Rattle.log4rs_settings.specs.declared.makers.Maker.TheVariants as maker

-- the maker of a kind, else one of the components that wait
abbrev pub source_from : List ℕ → List ℕ → ℕ → Option Maker → Result Source Fault
source_from class kind waiting (Some m) = Ok (Made m)
source_from class kind zero None = Err (unknown_kind class kind)
source_from class kind (suc waiting) None = Ok handed

-- a filter of these settings: its level, whatever else is there
abbrev pub filter_from : Data → Source → Result FilterPlan Part
filter_from d handed = Ok handed_filter
filter_from d (Made _) =
    or_bad (codes "filter") d (as_members d) >>= (λ ms.
    required (codes "level") as_level ms >>= (λ level.
    Ok (Threshold level)))

-- the pattern of an encoder that is given none
abbrev pub default_pattern : List ℕ
default_pattern = codes "{d} {l} {t} - {m}{n}"

-- an encoder of these settings: of JSON, or of a pattern
abbrev pub encoder_from : Data → Source → Result EncoderPlan Part
encoder_from d handed = Ok handed_encoder
encoder_from d (Made maker.Json) = fields_of (codes "encoder") [] d >>= (λ _. Ok json)
encoder_from d (Made _) =
    fields_of (codes "encoder") (codes "pattern" ∷ []) d >>= (λ ms.
    optional (codes "pattern") as_text default_pattern ms >>= (λ text.
    Ok (pattern text)))

-- the encoder of an appender, if one is given
abbrev pub read_given : Option Data → Result (Option Component) Part
read_given None = Ok None
read_given (Some d) = within (codes "encoder") (read_encoder d) >>= (λ c. Ok (Some c))

abbrev pub encoder_at : Members → Result (Option Component) Part
encoder_at ms = read_given (given (get_member (codes "encoder") ms))

module _ (kinds : Kinds) where
  -- where a component of a class comes from, while so many of them wait
  abbrev pub source_of : List ℕ → ℕ → List ℕ → Result Source Part
  source_of class waiting kind = in_object (source_from class kind waiting (kinds class kind))

  abbrev pub filter_plan : ℕ → Component → Result FilterPlan Part
  filter_plan waiting c = source_of (codes "filter") waiting c.kind >>= filter_from c.config

  -- an encoder by its own settings, and that of an appender: without settings the default pattern
  abbrev pub encoder_in : ℕ → Component → Result EncoderPlan Part
  encoder_in waiting c = source_of (codes "encoder") waiting c.kind >>= encoder_from c.config

  abbrev pub encoder_plan : ℕ → Option Component → Result EncoderPlan Part
  encoder_plan waiting None = Ok (pattern default_pattern)
  encoder_plan waiting (Some c) = within (codes "encoder") (encoder_in waiting c)
