-- What deserializers hold.
use Rattle.std.specs.Prelude.{◌≡◌, List}
use Rattle.std.specs.declared.alloc.Global.{Global}
use Rattle.log4rs_settings.specs.Makers.{Kinds}
use Rattle.log4rs_settings.specs.MakersView as makers
use Rattle.log4rs_base.specs.Text.{Text}
use Rattle.log4rs_parts.specs.NamedParts.{parts_in}
use Rattle.log4rs_parts.specs.Waits.{Waits, waits_in}
use Rattle.log4rs_build.specs.declared.deserializers.DeserializersWith.{DeserializersWith}
use Rattle.log4rs_parts.specs.declared.handed.Handed.{Handed}
use Rattle.log4rs_parts.specs.declared.handed.NamedParts.{NamedParts}

module _ {P R : Type 0} where
  -- the maker of each class and kind
  abbrev pub kinds_in : DeserializersWith P R → Kinds
  kinds_in d = makers.kinds d.makers

  -- the components that wait
  abbrev pub handed_of : DeserializersWith P R → P
  handed_of d = d.parts

  -- what makes components anew
  abbrev pub part_makers_of : DeserializersWith P R → R
  part_makers_of d = d.part_makers

  -- what their memory is taken from
  abbrev pub alloc_of : DeserializersWith P R → Global
  alloc_of d = d.alloc

  -- no maker changes; false where a kind has another one, or a component is made by another
  abbrev pub KeepsMakers : DeserializersWith P R → DeserializersWith P R → Type 0
  KeepsMakers old new = (kinds_in new ≡ kinds_in old) × (part_makers_of new ≡ part_makers_of old)

abbrev pub handed_in : {A F E T R : Type 0} → DeserializersWith (Handed A F E T) R → Waits A F E T
handed_in d = waits_in d.parts

-- the makers, each with the name of the appender that it makes components for
abbrev pub makers_of : {A F E T P : Type 0}
    → DeserializersWith (Handed A F E T) (NamedParts P) → List (Text × P)
makers_of r = parts_in r.part_makers
