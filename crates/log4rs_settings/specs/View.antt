-- The data that a `Tree` stands for.
use Rattle.std.specs.Prelude.{List, [], ◌∷◌, map as each, String, string_bytes}
use Rattle.std.specs.declared.alloc.Global.{Global}
use Rattle.log4rs_settings.specs.Data.{Data, null, boolean, number, text, list, map, Items}
use Rattle.log4rs_settings.specs.Data.{no_items, item, Members, no_members, member}
use Rattle.log4rs_settings.specs.declared.tree.Tree.{Tree, fold-Tree}
use Rattle.log4rs_settings.specs.declared.tree.Tree.TheOpen.{Tree-F}

abbrev pub items_of : List Data → Items
items_of [] = no_items
items_of (d ∷ ds) = item d (items_of ds)

abbrev pub members_of : List (String Global × Data) → Members
members_of [] = no_members
members_of (m ∷ ms) = member (string_bytes m.0) m.1 (members_of ms)

-- one level, with each tree inside already seen as its data
abbrev pub view_step : Tree-F Data → Data
view_step Tree-F.Null = null
view_step (Tree-F.Bool b) = boolean b
view_step (Tree-F.Number z) = number z
view_step (Tree-F.Text s) = text (string_bytes s)
view_step (Tree-F.List v) = list (items_of v.items)
view_step (Tree-F.Map m) = map (members_of m.entries)

-- the data of a tree
abbrev pub view : Tree → Data
view = fold-Tree Data view_step

-- the data of some trees, and of some entries
abbrev pub items_view : List Tree → Items
items_view ts = items_of (each view ts)

abbrev pub members_view : List (String Global × Tree) → Members
members_view ms = members_of (each (λ m. (m.0, view m.1)) ms)
