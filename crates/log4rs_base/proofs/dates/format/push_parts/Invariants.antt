use Rattle.std.proofs.Common.{◌≡◌, ◌++◌, drop, string_bytes}
use Rattle.std.specs.List.{flat_map}
use Rattle.log4rs_base.specs.DateFormat.{item_text}
use Rattle.log4rs_base.specs.PartView.{parts_items}
use Rattle.log4rs_base.proofs.dates.format.push_parts.Given as goal

abbrev pub invariant-loop-part : goal.invariant-loop-part
invariant-loop-part l =
    string_bytes l.out ++ flat_map (item_text l.clock) (parts_items (drop l.part-index l.parts))
    ≡ string_bytes l.fn.out ++ flat_map (item_text l.fn.clock) (parts_items l.fn.parts)
