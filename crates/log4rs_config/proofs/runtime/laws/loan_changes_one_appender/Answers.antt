use Rattle.std.proofs.Common.{refl}
use Rattle.log4rs_config.proofs.Lending.{filters-left, admits-left, read-set, sinks-left}
use Rattle.log4rs_config.proofs.runtime.laws.loan_changes_one_appender.Goals as goal

pub returns : goal.returns
returns g c = record {
  settings = λ d at left. refl;
  filters = λ d at left. filters-left d.appenders.items at left;
  admits = λ d at left r. admits-left d.appenders.items at left g.F.Filter.answer r;
  appenders = λ d at left. read-set (λ a. a) d.appenders.items at left;
  sinks = λ d at left. sinks-left d.appenders.items at left g.A.Append.sink;
}
