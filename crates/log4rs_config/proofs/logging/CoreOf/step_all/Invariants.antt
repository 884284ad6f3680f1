use Rattle.std.proofs.Common.{◌≡◌, ◌≤◌, vec_len, vec_capacity}
use Rattle.log4rs_base.specs.declared.record.Record.{Record}
use Rattle.log4rs_config.specs.Beside.{OneStep}
use Rattle.log4rs_config.specs.Builder.{config_settings, config_admits, config_sinks}
use Rattle.log4rs_config.proofs.Beside.{SoFar}
use Rattle.log4rs_config.proofs.logging.CoreOf.step_all.Given as goal

-- the places so far had their calls; the filters and settings stay, and there is room for the results to come
abbrev pub invariant-loop-at : goal.invariant-loop-at
invariant-loop-at g l =
    SoFar OneStep l.results.items (config_sinks g.A.Append.sink l.fn.self.config) (config_sinks g.A.Append.sink l.self.config)
    × ((r : Record) → config_admits g.F.Filter.answer l.self.config r ≡ config_admits g.F.Filter.answer l.fn.self.config r)
    × (config_settings l.self.config ≡ config_settings l.fn.self.config)
    × (vec_len l.results ≡ l.at)
    × (l.count ≤ vec_capacity l.results)
