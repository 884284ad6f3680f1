use Rattle.log4rs_build.proofs.in_force.plan_of.Given as goal

abbrev pub invariant-loop-appender : goal.invariant-loop-appender
invariant-loop-appender l = Unit {0}
