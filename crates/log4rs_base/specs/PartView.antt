-- The items that the parts of a format stand for.
use Rattle.std.specs.Prelude.{List, [], ◌∷◌, map, string_bytes}
use Rattle.std.specs.List.{flat_map}
use Rattle.log4rs_base.specs.DateFormat.{Item, literal, of_directive}
use Rattle.log4rs_base.specs.declared.dates.format.DateFormat.{DateFormat}
use Rattle.log4rs_base.specs.declared.dates.format.Part.{Part}
use Rattle.log4rs_base.specs.declared.dates.format.Part.TheVariants.{Literal, Directive}

abbrev pub part_items : Part → List Item
part_items (Literal text) = map literal (string_bytes text)
part_items (Directive directive) = of_directive directive ∷ []

abbrev pub parts_items : List Part → List Item
parts_items parts = flat_map part_items parts

abbrev pub items_of : DateFormat → List Item
items_of format = parts_items format.parts.items
