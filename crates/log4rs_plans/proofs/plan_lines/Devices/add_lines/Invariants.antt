use Rattle.std.proofs.Common.{◌≡◌, ◌+◌, ◌≤◌, length, map, take}
use Rattle.log4rs_settings.specs.Plan.{appender_of}
use Rattle.log4rs_plans.specs.Written.{kept_counts}
use Rattle.log4rs_plans.proofs.plan_lines.Devices.add_lines.Given as goal

abbrev pub invariant-loop-appender : goal.invariant-loop-appender
invariant-loop-appender g l = record {
  stay : take (length l.initial.lines.items) l.lines.items ≡ l.initial.lines.items;
  more : length l.initial.lines.items ≤ length l.lines.items;
  most : length l.lines.items ≤ length l.initial.lines.items + kept_counts (map (λ appender. appender_of appender.plan) (take l.appender-index l.planned));
}
