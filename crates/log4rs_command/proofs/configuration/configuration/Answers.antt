use Rattle.std.proofs.Common.{◌∷◌, [], ◌++◌, ap, ◌∙◌}
use Rattle.log4rs_command.proofs.ConfiguredLemmas.{one_sink}
use Rattle.log4rs_command.proofs.configuration.configuration.Goals as goal

pub returns-clause-sinks : goal.returns-clause-sinks
returns-clause-sinks g c =
    let given = c.in_ok-config.ensures.appenders ∙ c.in_ok-loggers-2.ensures.appenders ∙ c.in_ok-builder.ensures.appenders
    ∙ ap (λ l. l ++ (c.in_ok-appender.appender ∷ [])) c.default.ensures.appenders in
    one_sink _ _ _ c.in_ok-appender.appender given c.in_ok-appender.ensures.sink
