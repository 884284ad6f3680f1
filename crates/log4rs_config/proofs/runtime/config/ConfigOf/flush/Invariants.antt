use Rattle.std.proofs.Common.{◌≡◌}
use Rattle.log4rs_base.specs.declared.record.Record.{Record}
use Rattle.log4rs_config.specs.Builder.{config_admits, config_settings, config_sinks}
use Rattle.log4rs_config.proofs.runtime.config.ConfigOf.flush.Given as goal

-- nothing that is told changes
abbrev pub invariant-loop-at : goal.invariant-loop-at
invariant-loop-at g l =
    (config_sinks g.A.Append.sink l.self ≡ config_sinks g.A.Append.sink l.fn.self)
    × ((r : Record) → config_admits g.F.Filter.answer l.self r ≡ config_admits g.F.Filter.answer l.fn.self r)
    × (config_settings l.self ≡ config_settings l.fn.self)
