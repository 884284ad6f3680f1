use Rattle.std.proofs.Common.{rules, sym, tests, ◌∙◌}
use Rattle.std.specs.List.{list_all}
use Rattle.std.specs.Result.{is_ok}
use Rattle.std.proofs.lemmas.Iterator.{YieldsList-from_slice}
use Rattle.std.proofs.lemmas.Iterator.Search.{all_from_yields_List}
use Rattle.std.proofs.lemmas.List.Folds.{list_all-map}
use Rattle.log4rs_base.specs.Text.{Text}
use Rattle.log4rs_plans.specs.Plans.{Asked}
use Rattle.log4rs_plans.specs.View.{asked_view}
use Rattle.log4rs_plans.proofs.asked.Plans.filters_are_good.Goals as goal

pub returns : goal.returns
returns c =
    let appenders = c.args.self.now.appenders.items in
    all_from_yields_List (λ a. list_all is_ok (asked_view a).1.filters) _ _ c.all.result c.all.ensures.ran (YieldsList-from_slice appenders cc) (λ x b q k. search (rules, tests))
    ∙ sym (list_all-map (λ (a : Text × Asked). list_all is_ok a.1.filters) asked_view appenders)
