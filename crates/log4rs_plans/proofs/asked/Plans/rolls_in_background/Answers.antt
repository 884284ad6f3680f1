use Rattle.std.proofs.Common.{rules, sym, tests, ◌∙◌}
use Rattle.std.proofs.lemmas.Iterator.{YieldsList-from_slice}
use Rattle.std.proofs.lemmas.Iterator.Search.{any_from_yields_List}
use Rattle.log4rs_settings.proofs.Names.{list_any-map}
use Rattle.log4rs_plans.specs.Background.{if_in_background}
use Rattle.log4rs_plans.specs.View.{asked_view}
use Rattle.log4rs_plans.proofs.asked.Plans.rolls_in_background.Goals as goal

pub returns : goal.returns
returns c =
    let appenders = c.args.self.now.appenders.items in
    any_from_yields_List (λ a. if_in_background (asked_view a).1.plan) _ _ c.any.result c.any.ensures.ran (YieldsList-from_slice appenders cc) (λ x b q k. search (rules, tests))
    ∙ sym (list_any-map (λ a. if_in_background a.1.plan) asked_view appenders)
