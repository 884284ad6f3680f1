use Rattle.std.proofs.Common.{◌≡◌, List, ◌++◌, take, Ok}
use Rattle.log4rs_settings.specs.View.{items_view, members_view}
use Rattle.log4rs_settings.specs.FromJson.{of_json_items, of_json_members}
use Rattle.serde_json.specs.View.{items_view as json_items_view, members_view as json_members_view}
use Rattle.serde_json.proofs.Views.{Entry}
use Rattle.log4rs_settings.proofs.Trees.{names}
use Rattle.log4rs_settings.proofs.convert.+json.Given as goal

abbrev pub invariant-json_list-loop-item : goal.invariant-json_list-loop-item
invariant-json_list-loop-item l = of_json_items (json_items_view (take l.item-index l.item-items)) ≡ Ok (items_view l.trees.items)

abbrev pub invariant-json_map-loop-key : goal.invariant-json_map-loop-key
invariant-json_map-loop-key l = (done : List Entry) × (l.members.entries ≡ done ++ l.key-iterator)
    × (names l.trees.entries ≡ names done) × (of_json_members (json_members_view done) ≡ Ok (members_view l.trees.entries))
