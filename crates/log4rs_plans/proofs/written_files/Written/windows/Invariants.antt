use Rattle.std.proofs.Common.{◌≡◌, map, take}
use Rattle.log4rs_plans.specs.Written.{each_plan, window_of, windows_in}
use Rattle.log4rs_plans.proofs.written_files.Written.windows.Given as goal

abbrev pub invariant-loop-appender : goal.invariant-loop-appender
invariant-loop-appender l =
    map window_of l.windows.items ≡ windows_in l.self.env.now (each_plan (take l.appender l.self.plans.now))
