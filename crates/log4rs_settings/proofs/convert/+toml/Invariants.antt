use Rattle.std.proofs.Common.{◌≡◌, List, ◌++◌, take, Ok}
use Rattle.log4rs_settings.specs.View.{items_view, members_view}
use Rattle.log4rs_settings.specs.FromToml.{of_toml_items, of_toml_members}
use Rattle.toml.specs.View.{items_view as toml_items_view, members_view as toml_members_view}
use Rattle.toml.proofs.Views.{Entry}
use Rattle.log4rs_settings.proofs.Trees.{names}
use Rattle.log4rs_settings.proofs.convert.+toml.Given as goal

abbrev pub invariant-toml_list-loop-item : goal.invariant-toml_list-loop-item
invariant-toml_list-loop-item l = of_toml_items (toml_items_view (take l.item-index l.item-items)) ≡ Ok (items_view l.trees.items)

abbrev pub invariant-toml_map-loop-key : goal.invariant-toml_map-loop-key
invariant-toml_map-loop-key l = (done : List Entry) × (l.members.entries ≡ done ++ l.key-iterator)
    × (names l.trees.entries ≡ names done) × (of_toml_members (toml_members_view done) ≡ Ok (members_view l.trees.entries))
