-- A component's kind, taken out of its object, and the rest.
use Rattle.std.specs.Prelude.{ℕ, List, map as each, codes, Option, Some, None}
use Rattle.std.specs.Prelude.{Result, Ok, Vec, string_bytes}
use Rattle.std.specs.Borrow.{Bor}
use Rattle.std.specs.declared.alloc.Global.{Global}
use Rattle.log4rs_settings.specs.Data.{Data, map, no_items, Members}
use Rattle.log4rs_settings.specs.View.{view}
use Rattle.log4rs_settings.specs.Fields.{◌>>=◌, present}
use Rattle.log4rs_settings.specs.Part.{Part, within, in_object, or_bad, required, optional, text_at}
use Rattle.log4rs_settings.specs.Part.{each_item}
use Rattle.log4rs_settings.specs.Members.{get_member, without}
use Rattle.log4rs_settings.specs.Values.{as_list, as_members, as_text}
use Rattle.log4rs_settings.specs.declared.component.Component.{Component as Kinded}
use Rattle.log4rs_settings.specs.declared.component.FilterConfig.{FilterConfig}
use Rattle.log4rs_settings.specs.declared.component.AppenderConfig.{AppenderConfig}
use Rattle.log4rs_settings.specs.declared.component.EncoderConfig.{EncoderConfig}

-- a kind, and the other members
pub record Component : Type 0 where
  pub kind : List ℕ
  pub config : Data

-- components as data
abbrev pub component_view : Kinded → Component
component_view c = record { kind = string_bytes c.kind; config = view c.config }

abbrev pub component_now : Bor Kinded → Component
component_now c = component_view c.now

abbrev pub filter_view : FilterConfig → Component
filter_view f = record { kind = string_bytes f.kind; config = view f.config }

abbrev pub encoder_view : EncoderConfig → Component
encoder_view f = record { kind = string_bytes f.kind; config = view f.config }

-- the members of a component, whose kind is this
abbrev pub rest_of : Members → List ℕ → Component
rest_of ms kind = record { kind = kind; config = map (without (codes "kind") ms) }

-- a component of a class, whose kind may have a default
abbrev pub read_component : Option (List ℕ) → List ℕ → Data → Result Component Part
read_component default class d =
    or_bad class d (as_members d) >>= (λ ms.
    text_at default (codes "kind") ms >>= (λ kind.
    Ok (rest_of ms kind)))

-- such a component at a field that must be there
abbrev pub component_at : Option (List ℕ) → List ℕ → Members → Result Component Part
component_at default name ms =
    in_object (present name (get_member name ms)) >>= (λ d.
    within name (read_component default name d))

-- an encoder
abbrev pub read_encoder : Data → Result Component Part
read_encoder d = read_component (Some (codes "pattern")) (codes "encoder") d

-- a filter, whose kind must be given
abbrev pub read_filter : Data → Result Component Part
read_filter d = read_component None (codes "filter") d

-- the filters of an appender, none where they are absent or null
abbrev pub filters_of : Members → Result (List Component) Part
filters_of ms =
    optional (codes "filters") as_list no_items ms >>= (λ ds.
    within (codes "filters") (each_item read_filter 0 ds))

abbrev pub filters_view : Vec FilterConfig Global → List Component
filters_view v = each filter_view v.items

-- a kind, the filters, and the other members
pub record AppenderSettings : Type 0 where
  pub kind : List ℕ
  pub filters : List Component
  pub config : Data

abbrev pub appender_view : AppenderConfig → AppenderSettings
appender_view a =
    record { kind = string_bytes a.kind; filters = filters_view a.filters; config = view a.config }

-- an appender, whose kind must be given
abbrev pub read_appender : Data → Result AppenderSettings Part
read_appender d =
    or_bad (codes "appender") d (as_members d) >>= (λ ms.
    required (codes "kind") as_text ms >>= (λ kind.
    filters_of (without (codes "kind") ms) >>= (λ filters.
    Ok (record {
      kind = kind;
      filters = filters;
      config = map (without (codes "filters") (without (codes "kind") ms));
    }))))
