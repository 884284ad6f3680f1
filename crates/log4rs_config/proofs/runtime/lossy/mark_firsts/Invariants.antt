use Rattle.std.proofs.Common.{◌≡◌, [], map, take}
use Rattle.log4rs_base.specs.Text.{Text}
use Rattle.log4rs_config.specs.Lossy.{are_first}
use Rattle.log4rs_config.specs.Settings.{is_among}
use Rattle.log4rs_config.proofs.runtime.lossy.mark_firsts.Given as goal

-- the names of the items so far are seen, and their marks are made
abbrev pub invariant-loop-item : goal.invariant-loop-item
invariant-loop-item g l =
    let names = map g.T.Named.name (take l.item-index l.items) in
    ((other : Text) → is_among l.names other ≡ is_among names other) × (l.marks.items ≡ are_first [] names)
