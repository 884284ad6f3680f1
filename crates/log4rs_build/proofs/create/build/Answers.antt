use Rattle.std.proofs.Common.{[], ap, ◌∙◌}
use Rattle.log4rs_config.specs.Appender.{name_of}
use Rattle.log4rs_config.specs.Faults.{faults}
use Rattle.log4rs_config.specs.Lossy.{firsts, kept}
use Rattle.log4rs_plans.specs.View.{plans_view}
use Rattle.log4rs_build.proofs.Creating.{given}
use Rattle.log4rs_build.proofs.create.build.Goals as goal

pub returns-clause-built : goal.returns-clause-built
returns-clause-built g c =
    let appenders = c.in_ok-appenders.appenders.items in
    let same = given (plans_view c.args.plans) c.in_ok-builder.builder c.in_ok-root_of.field-0 appenders
    c.in_ok-builder.ensures.appenders (rw c.deref.ensures.value at c.in_ok-builder.ensures.loggers) c.in_ok-root_of.ensures in
    record {
      appenders = appenders;
      built = c.in_ok-appenders.ensures.built;
      behind = c.in_ok-config.ensures.appenders ∙ ap (firsts name_of []) c.in_ok-builder.ensures.appenders;
      settings = c.in_ok-config.ensures.settings ∙ ap kept same;
      reported = c.in_ok-config.ensures.errors ∙ ap faults same;
    }
