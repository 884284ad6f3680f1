use Rattle.std.proofs.Common.{refl}
use Rattle.log4rs_config.proofs.Lending.{admits-left, read-set, worked-left}
use Rattle.log4rs_config.specs.Beside.{OneStep}
use Rattle.log4rs_config.proofs.logging.CoreOf.step.Goals as goal

pub returns-clause-stepped : goal.returns-clause-stepped
returns-clause-stepped g c =
    worked-left c.args.self.now.config.appenders.items c.args.at c.step.new.self OneStep g.A.Append.sink c.step.result c.appender_mut.result.now c.appender_mut.ensures.value
    (record { texts = c.step.ensures.texts; unrefused = c.step.ensures.unrefused; fault = c.step.ensures.fault; built_in = c.step.ensures.built_in; rolled = c.step.ensures.rolled; idle = c.step.ensures.idle })

pub returns-clause-others : goal.returns-clause-others
returns-clause-others g c = (c.step.new.self, read-set (λ a. a) c.args.self.now.config.appenders.items c.args.at c.step.new.self)

pub returns-clause-routes : goal.returns-clause-routes
returns-clause-routes g c = record {
  settings = refl;
  admits = λ r. admits-left c.args.self.now.config.appenders.items c.args.at c.step.new.self g.F.Filter.answer r;
}
