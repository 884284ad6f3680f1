use Rattle.std.proofs.Common.{◌≡◌, map, take}
use Rattle.log4rs_base.specs.Filtering.{threshold_answer}
use Rattle.log4rs_base.specs.declared.record.Record.{Record}
use Rattle.log4rs_base.specs.contracts.filter.ThresholdFilterFilter.TheImpl as threshold
use Rattle.log4rs_threads.proofs.schedule.installed.filters.Given as goal

-- those so far answer as their thresholds
abbrev pub invariant-loop-level : goal.invariant-loop-level
invariant-loop-level l =
    (r : Record) → map (λ f. (threshold.ghosts).answer f r) l.made.items ≡ map (λ limit. threshold_answer limit r.level) (take l.level-index l.thresholds)
