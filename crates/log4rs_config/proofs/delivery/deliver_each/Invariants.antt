use Rattle.std.proofs.Common.{◌≡◌, ◌≤◌, ◌+◌, ◌++◌, length, take}
use Rattle.log4rs_base.specs.declared.record.Record.{Record}
use Rattle.log4rs_config.specs.Delivery.{AreMade}
use Rattle.log4rs_config.specs.Routing.{admitted}
use Rattle.log4rs_config.proofs.delivery.deliver_each.Given as goal

-- the places so far had their deliveries, and there is room for each to come
abbrev pub invariant-loop-at : goal.invariant-loop-at
invariant-loop-at g l =
    (g.D.Destinations.size l.to ≡ g.D.Destinations.size l.fn.to)
    × (g.D.Destinations.identity l.to ≡ g.D.Destinations.identity l.fn.to)
    × (length l.places ≤ g.N.NoteDeliveries.room l.notes + l.at-index)
    × ((r : Record) → g.D.Configured.admits l.to r ≡ g.D.Configured.admits l.fn.to r)
    × (g.D.Configured.settings l.to ≡ g.D.Configured.settings l.fn.to)
    × ((made : _)
    × AreMade (g.D.Destinations.appends l.«record» l.context) (admitted (g.D.Configured.admits l.fn.to l.«record») (take l.at-index l.places)) made l.fn.to l.to
    × ((before : _) → g.N.NoteDeliveries.noted l.fn.notes before → g.N.NoteDeliveries.noted l.notes (before ++ made)))
