use Rattle.std.proofs.Common.{◌≡◌, map, take}
use Rattle.log4rs_config.specs.Holder.{Happened, retirements}
use Rattle.log4rs_build.specs.Retiring.{leaving_appender}
use Rattle.log4rs_build.proofs.in_force.retire_all.Given as goal

-- those so far are retired, and stay who they are
abbrev pub invariant-loop-at : goal.invariant-loop-at
invariant-loop-at g l =
    (map leaving_appender l.leavers.items ≡ map leaving_appender l.fn.leavers.items)
    × Happened (g.H.SharesAppenders.history l.fn.holder) (g.H.SharesAppenders.history l.holder)
    (retirements (g.M.StoreMaker.stores l.maker) (take l.at (map leaving_appender l.fn.leavers.items)))
