use Rattle.std.proofs.Common.{refl}
use Rattle.log4rs_config.proofs.Lending.{admits-left, read-set, worked-left}
use Rattle.log4rs_config.specs.Beside.{OneDrive}
use Rattle.log4rs_config.proofs.logging.CoreOf.drive.Goals as goal

pub returns-clause-driven : goal.returns-clause-driven
returns-clause-driven g c =
    worked-left c.args.self.now.config.appenders.items c.args.at c.drive.new.self OneDrive g.A.Append.sink c.drive.result c.appender_mut.result.now c.appender_mut.ensures.value
    (record { texts = c.drive.ensures.texts; unrefused = c.drive.ensures.unrefused; fault = c.drive.ensures.fault; built_in = c.drive.ensures.built_in; rolled = c.drive.ensures.rolled; idle = c.drive.ensures.idle })

pub returns-clause-others : goal.returns-clause-others
returns-clause-others g c = (c.drive.new.self, read-set (λ a. a) c.args.self.now.config.appenders.items c.args.at c.drive.new.self)

pub returns-clause-routes : goal.returns-clause-routes
returns-clause-routes g c = record {
  settings = refl;
  admits = λ r. admits-left c.args.self.now.config.appenders.items c.args.at c.drive.new.self g.F.Filter.answer r;
}
