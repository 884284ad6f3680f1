use Rattle.std.proofs.Common.{List, take}
use Rattle.log4rs_config.specs.Holder.{HolderEvent, Happened}
use Rattle.log4rs_build.specs.Retiring.{Asks}
use Rattle.log4rs_build.proofs.in_force.still_in_force.Given as goal

-- of those so far the holder was asked
abbrev pub invariant-loop-appender : goal.invariant-loop-appender
invariant-loop-appender g l =
    (asked : List (HolderEvent g.row.B.Denot))
    × Asks (take l.appender-index l.in_force) l.still.items asked
    × Happened (g.H.SharesAppenders.history l.fn.holder) (g.H.SharesAppenders.history l.holder) asked
