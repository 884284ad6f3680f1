use Rattle.std.proofs.Common.{◌∙◌, ap}
use Rattle.log4rs_config.specs.Builder.{admits_of, names_alone}
use Rattle.log4rs_config.proofs.Lending.{left_in-set, names-left, admits-left, appends-left, value-lent}
use Rattle.log4rs_config.proofs.runtime.appender.VecFilteredDestinations.append.Goals as goal

pub returns-clause-appends : goal.returns-clause-appends
returns-clause-appends g c =
    let all = c.args.self.now.items in
    let lent = c.index_mut.result.now in
    rw (left_in-set all c.args.at lent c.append.new.self c.index_mut.ensures.value)
    (appends-left all c.args.at c.append.new.self g.A.Append.sink c.args.logged.now c.args.context.now c.append.result c.appender_mut.result.now
    (value-lent all c.args.at lent c.appender_mut.result.now c.requires c.index_mut.ensures.value c.appender_mut.ensures.value)
    (record { gains = c.append.ensures.gains; fault = c.append.ensures.fault; built_in = c.append.ensures.built_in; rolled = c.append.ensures.rolled; plain = c.append.ensures.plain }))

pub returns-clause-routes : goal.returns-clause-routes
returns-clause-routes g c =
    let all = c.args.self.now.items in
    let left = c.append.new.self in
    let set = left_in-set all c.args.at c.index_mut.result.now left c.index_mut.ensures.value in
    record {
      settings = ap (λ items. names_alone items) set ∙ names-left all c.args.at left;
      admits = λ r. ap (λ items. admits_of g.F.Filter.answer items r) set ∙ admits-left all c.args.at left g.F.Filter.answer r;
    }
