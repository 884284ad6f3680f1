use Rattle.std.proofs.Common.{map, take}
use Rattle.log4rs_config.specs.Holder.{Happened, resumptions}
use Rattle.log4rs_build.specs.Retiring.{leaving_appender}
use Rattle.log4rs_build.proofs.in_force.resume_all.Given as goal

-- those so far are resumed
abbrev pub invariant-loop-leaver : goal.invariant-loop-leaver
invariant-loop-leaver g l =
    Happened (g.H.SharesAppenders.history l.fn.holder) (g.H.SharesAppenders.history l.holder)
    (resumptions (take l.leaver-index (map leaving_appender l.leavers)))
