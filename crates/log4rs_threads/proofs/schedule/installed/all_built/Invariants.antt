use Rattle.std.proofs.Common.{◌≡◌, map, string_bytes}
use Rattle.log4rs_base.specs.Filtering.{passes, threshold_answer}
use Rattle.log4rs_base.specs.declared.record.Record.{Record}
use Rattle.log4rs_base.specs.contracts.filter.ThresholdFilterFilter.TheImpl as threshold
use Rattle.log4rs_config.specs.Appender.{name_of, filters_of, appender_of}
use Rattle.log4rs_threads.specs.Held.{AreEmpty, all_texts, memory_sink}
use Rattle.log4rs_threads.proofs.schedule.installed.all_built.Given as goal

-- those so far are those of the shape's appenders
abbrev pub invariant-loop-appender : goal.invariant-loop-appender
invariant-loop-appender l = record {
  names : map (λ a. name_of a) l.made.items ≡ map (λ a. string_bytes a.name) l.yielded;
  passes : (r : Record) → map (λ a. passes (λ f. (threshold.ghosts).answer f r) (filters_of a)) l.made.items ≡ map (λ a. passes (λ limit. threshold_answer limit r.level) a.thresholds.items) l.yielded;
  empty : AreEmpty l.yielded (all_texts (map (λ a. memory_sink (appender_of a)) l.made.items));
}
