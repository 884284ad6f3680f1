use Rattle.std.proofs.Common.{string_bytes}
use Rattle.log4rs_base.specs.Filtering.{passes, threshold_answer}
use Rattle.log4rs_base.specs.contracts.filter.ThresholdFilterFilter.TheImpl as threshold
use Rattle.log4rs_config.specs.Appender.{name_of, filters_of}
use Rattle.log4rs_threads.proofs.ListFacts.{map_more_same}
use Rattle.log4rs_threads.proofs.Shaping.{one_more}
use Rattle.log4rs_threads.proofs.schedule.installed.all_built.Goals as goal

pub loop-appender-preserved : goal.loop-appender-preserved
loop-appender-preserved c =
    let so_far = c.loop-appender.invariant in
    let here = c.in_ok-built.ensures in
    let seen = c.loop-appender.yielded in
    let a = c.in-Some.appender in
    rw c.in_ok-push.ensures.items (record {
      names = map_more_same (λ a. name_of a) (λ a. string_bytes a.name) _ seen _ a so_far.names here.name;
      passes = λ r. map_more_same (λ a. passes (λ f. (threshold.ghosts).answer f r) (filters_of a)) (λ a. passes (λ limit. threshold_answer limit r.level) a.thresholds.items) _ seen _ a (so_far.passes r) (here.passes r);
      empty = one_more seen _ a _ so_far.empty here.empty;
    })
