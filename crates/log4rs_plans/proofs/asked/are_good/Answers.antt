use Rattle.std.proofs.Common.{rules, sym, tests, ◌∙◌}
use Rattle.std.specs.Result.{is_ok}
use Rattle.std.proofs.lemmas.Iterator.{YieldsList-from_slice}
use Rattle.std.proofs.lemmas.Iterator.Search.{all_from_yields_List}
use Rattle.std.proofs.lemmas.List.Folds.{list_all-map}
use Rattle.log4rs_plans.specs.View.{told}
use Rattle.log4rs_plans.proofs.asked.are_good.Goals as goal

pub returns : goal.returns
returns c =
    let filters = c.args.filters.now in
    all_from_yields_List (λ f. is_ok (told (λ plan. plan) f)) _ _ c.all.result c.all.ensures.ran (YieldsList-from_slice filters cc) (λ x b q k. search (rules, tests))
    ∙ sym (list_all-map is_ok (told (λ plan. plan)) filters)
