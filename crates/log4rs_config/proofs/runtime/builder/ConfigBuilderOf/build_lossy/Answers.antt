use Rattle.std.proofs.Common.{◌∙◌, ap, map, sym}
use Rattle.log4rs_config.specs.Appender.{name_of}
use Rattle.log4rs_config.specs.Settings.{settings_of}
use Rattle.log4rs_config.proofs.Keeping.{kept_settings, kept_accepted}
use Rattle.log4rs_config.proofs.runtime.builder.ConfigBuilderOf.build_lossy.Goals as goal

pub accept-requires : goal.accept-requires
accept-requires g c =
    rw (c.in_ok-names.ensures, c.deref-4.ensures.value)
    (kept_accepted c.args.self.appenders.items c.in_ok-appenders.appenders.items c.deref-3.result.now c.args.root c.in_ok-root.root c.args.self.loggers.items c.in_ok-root.loggers.items
    c.in_ok-appenders.ensures c.deref-3.ensures.value c.in_ok-root.ensures)

pub invariant_of-result : goal.invariant_of-result
invariant_of-result g c =
    record { named = sym (ap (λ s. s.appenders) c.in_ok-lists.ensures ∙ (c.in_ok-names.ensures ∙ ap (map (λ a. name_of a)) c.deref-4.ensures.value)) }

pub returns-clause-settings : goal.returns-clause-settings
returns-clause-settings g c =
    c.in_ok-lists.ensures ∙ (ap (λ names. settings_of names c.in_ok-root.root c.in_ok-root.loggers.items) (c.in_ok-names.ensures ∙ ap (map (λ a. name_of a)) c.deref-4.ensures.value)
    ∙ kept_settings c.args.self.appenders.items c.in_ok-appenders.appenders.items c.deref-3.result.now c.args.root c.in_ok-root.root c.args.self.loggers.items c.in_ok-root.loggers.items
    c.in_ok-appenders.ensures c.deref-3.ensures.value c.in_ok-root.ensures)

pub returns-clause-errors : goal.returns-clause-errors
returns-clause-errors g c = rw (← c.deref.ensures.value, ← c.deref-2.ensures.value) c.in_ok-errors.ensures.errors
