use Rattle.std.proofs.Common.{◌≡◌, ◌≤◌, take, length, vec_len, vec_capacity}
use Rattle.log4rs_base.specs.declared.record.Record.{Record}
use Rattle.log4rs_config.specs.Answers.{AreAnswers}
use Rattle.log4rs_config.specs.Builder.{config_settings, config_admits, config_sinks}
use Rattle.log4rs_config.specs.Routing.{deliveries}
use Rattle.log4rs_config.proofs.logging.CoreOf.log_all.Given as goal

-- the entries so far are answered; the filters and settings stay, and there is room for the answers to come
abbrev pub invariant-loop-entry : goal.invariant-loop-entry
invariant-loop-entry g l =
    AreAnswers (deliveries (config_settings l.fn.self.config) (config_admits g.F.Filter.answer l.fn.self.config)) (take l.entry-index l.entries)
    l.answers.items (config_sinks g.A.Append.sink l.fn.self.config) (config_sinks g.A.Append.sink l.self.config)
    × ((r : Record) → config_admits g.F.Filter.answer l.self.config r ≡ config_admits g.F.Filter.answer l.fn.self.config r)
    × (config_settings l.self.config ≡ config_settings l.fn.self.config)
    × (vec_len l.answers ≡ l.entry-index)
    × (length l.entries ≤ vec_capacity l.answers)
