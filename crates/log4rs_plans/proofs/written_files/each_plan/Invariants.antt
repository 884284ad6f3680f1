use Rattle.std.proofs.Common.{◌≡◌, map, take}
use Rattle.log4rs_settings.specs.Plan.{appender_of}
use Rattle.log4rs_plans.specs.Written.{each_plan}
use Rattle.log4rs_plans.proofs.written_files.each_plan.Given as goal

abbrev pub invariant-loop-appender : goal.invariant-loop-appender
invariant-loop-appender l =
    each_plan l.plans.items ≡ map (λ appender. appender_of appender.plan) (take l.appender-index l.planned)
