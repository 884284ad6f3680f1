use Rattle.std.proofs.Common.{◌≡◌, ◌++◌, map}
use Rattle.log4rs_build.specs.Retiring.{leaving_appender}
use Rattle.log4rs_build.proofs.in_force.leavers_of.Given as goal

-- those so far are ones that leave
abbrev pub invariant-loop-appender : goal.invariant-loop-appender
invariant-loop-appender g l =
    (l.fn.appenders.items ≡ l.yielded ++ l.appender-iterator.rest.items)
    × (map leaving_appender l.leavers.items ≡ l.yielded)
