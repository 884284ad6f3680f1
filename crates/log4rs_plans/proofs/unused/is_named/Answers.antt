use Rattle.std.proofs.Common.{Bool, ◌||◌, ap, rules, sym, tests, ◌∙◌}
use Rattle.std.proofs.lemmas.Iterator.{YieldsList-from_slice}
use Rattle.std.proofs.lemmas.Iterator.Search.{any_from_yields_List}
use Rattle.std.specs.List.{list_any}
use Rattle.log4rs_settings.specs.declared.top.NamedLogger.{NamedLogger}
use Rattle.log4rs_plans.specs.Unused.{is_in}
use Rattle.log4rs_plans.proofs.unused.is_named.Goals as goal

pub returns-else-is_in : goal.returns-else-is_in
returns-else-is_in c =
    let loggers = c.args.plans.now.loggers.items in
    let names = λ (logger : NamedLogger). is_in logger.config.appenders c.args.name.now in
    any_from_yields_List names _ _ c.any.result c.any.ensures.ran (YieldsList-from_slice loggers cc) (λ x b q k. search (rules, tests))
    ∙ ap (λ (b : Bool). b || list_any names loggers) (sym c.if-is_in.false ∙ c.is_in.ensures)
