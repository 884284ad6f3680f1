use Rattle.std.proofs.Common.{◌∙◌, ap}
use Rattle.log4rs_threads.proofs.Shaping.{holds_nothing}
use Rattle.log4rs_threads.specs.Held.{memory_sink}
use Rattle.log4rs_threads.proofs.schedule.installed.built.Goals as goal

pub returns-clause-empty : goal.returns-clause-empty
returns-clause-empty c =
    holds_nothing c.args.appender c.as_str.result.now _ _ c.as_str.ensures.value c.in_ok-encoder.ensures (ap memory_sink c.build.ensures.appender ∙ c.new-memory.ensures)
