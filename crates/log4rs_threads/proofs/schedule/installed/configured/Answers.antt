use Rattle.std.proofs.Common.{◌∙◌, ap, ◌++◌}
use Rattle.std.proofs.lemmas.Result.{IfOk-weaker}
use Rattle.log4rs_base.specs.contracts.filter.ThresholdFilterFilter.TheImpl as threshold
use Rattle.log4rs_config.specs.Builder.{admits_of}
use Rattle.log4rs_threads.proofs.Shaping.{empty_in}
use Rattle.log4rs_threads.proofs.schedule.installed.configured.Goals as goal

pub returns-clause-empty : goal.returns-clause-empty
returns-clause-empty c =
    let given = c.in_ok-loggers.ensures.appenders ∙ (c.in_ok-builder.ensures.appenders ∙ ap (λ xs. xs ++ c.in_ok-appenders.appenders.items) c.builder.ensures.appenders) in
    IfOk-weaker c.build.result _ _ (λ config e. empty_in c.args.shape.appenders.items c.in_ok-appenders.appenders.items config (e ∙ given) c.in_ok-appenders.ensures.empty) c.build.ensures.appenders

pub returns-clause-admits : goal.returns-clause-admits
returns-clause-admits c =
    let given = c.in_ok-loggers.ensures.appenders ∙ (c.in_ok-builder.ensures.appenders ∙ ap (λ xs. xs ++ c.in_ok-appenders.appenders.items) c.builder.ensures.appenders) in
    IfOk-weaker c.build.result _ _ (λ config e r. ap (λ all. admits_of (threshold.ghosts).answer all r) (e ∙ given) ∙ c.in_ok-appenders.ensures.passes r) c.build.ensures.appenders
