use Rattle.std.proofs.Common.{◌∙◌, refl}
use Rattle.guide.proofs.TwoLemmas.{given_two, one_logger, two_set, sinks_two}
use Rattle.guide.proofs.direct.two.config.Goals as goal

pub returns-clause-settings : goal.returns-clause-settings
returns-clause-settings g c =
    let given = given_two _ _ _ _ c.in_ok-first-2.first c.in_ok-second-2.second
    c.in_ok-builder-3.ensures.appenders c.in_ok-builder-2.ensures.appenders c.in_ok-builder.ensures.appenders c.default.ensures.appenders in
    let logger = one_logger _ _ _ c.in_ok-builder-3.ensures.loggers
    (c.in_ok-builder-2.ensures.loggers ∙ c.in_ok-builder.ensures.loggers ∙ c.default.ensures.loggers) c.in_ok-logger.ensures in
    c.in_ok-config.ensures.settings
    ∙ two_set _ c.in_ok-first-2.first c.in_ok-second-2.second _ _ given c.in_ok-first-2.ensures.name c.in_ok-second-2.ensures.name c.in_ok-root.ensures logger

pub returns-clause-admits : goal.returns-clause-admits
returns-clause-admits g c r =
    let given = given_two _ _ _ _ c.in_ok-first-2.first c.in_ok-second-2.second
    c.in_ok-builder-3.ensures.appenders c.in_ok-builder-2.ensures.appenders c.in_ok-builder.ensures.appenders c.default.ensures.appenders in
    rw (c.in_ok-config.ensures.appenders ∙ given, c.in_ok-first-2.ensures.filters, c.in_ok-second-2.ensures.filters) refl

pub returns-clause-sinks : goal.returns-clause-sinks
returns-clause-sinks g c =
    let given = given_two _ _ _ _ c.in_ok-first-2.first c.in_ok-second-2.second
    c.in_ok-builder-3.ensures.appenders c.in_ok-builder-2.ensures.appenders c.in_ok-builder.ensures.appenders c.default.ensures.appenders in
    sinks_two _ _ c.in_ok-first-2.first c.in_ok-second-2.second c.in_ok-first.first c.in_ok-second.second (c.in_ok-config.ensures.appenders ∙ given)
    c.in_ok-first-2.ensures.appender c.in_ok-second-2.ensures.appender c.in_ok-first.ensures c.in_ok-second.ensures
