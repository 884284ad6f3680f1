use Rattle.std.proofs.Common.{◌≡◌, map, take}
use Rattle.log4rs_plans.specs.Written.{each_plan, file_of, files_in, name_of}
use Rattle.log4rs_plans.proofs.written_files.Written.files.Given as goal

abbrev pub invariant-loop-appender : goal.invariant-loop-appender
invariant-loop-appender l =
    map name_of (map file_of l.files.items) ≡ files_in (each_plan (take l.appender l.self.plans.now))
