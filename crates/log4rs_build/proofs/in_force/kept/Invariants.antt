use Rattle.std.proofs.Common.{◌≢◌, All, take}
use Rattle.log4rs_settings.specs.Plan.{appender_of}
use Rattle.log4rs_build.specs.Keeping.{planned}
use Rattle.log4rs_build.proofs.in_force.kept.Given as goal

-- none so far has the name and the effective plan
abbrev pub invariant-loop-appender : goal.invariant-loop-appender
invariant-loop-appender g l =
    All (λ a. planned a ≢ (l.name, appender_of l.plan)) (take l.appender-index l.in_force)
