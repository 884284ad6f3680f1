use Rattle.std.proofs.Common.{◌≡◌, map, take}
use Rattle.log4rs_base.specs.Text.{Text}
use Rattle.log4rs_config.specs.Settings.{is_among}
use Rattle.log4rs_config.proofs.name.NameSet.of.Given as goal

-- the names of the items so far
abbrev pub invariant-loop-item : goal.invariant-loop-item
invariant-loop-item g l = (other : Text) → is_among l.names other ≡ is_among (map g.T.Named.name (take l.item-index l.items)) other
