use Rattle.std.proofs.Common.{rules, is_lt}
use Rattle.std.proofs.lemmas.Fn.{always_returns_same}
use Rattle.std.proofs.lemmas.List.Sorted.{ranks_by}
use Rattle.log4rs_config.specs.Name.{components}
use Rattle.log4rs_config.specs.Order.{parts_cmp}
use Rattle.log4rs_config.proofs.Halving.{total}
use Rattle.log4rs_config.proofs.routes.sort.Goals as goal

pub returns-clause-sorted : goal.returns-clause-sorted
returns-clause-sorted c =
    c.in_ok-sort_by.ensures.sorted (λ a b. is_lt (parts_cmp (components a.logger.now.name) (components b.logger.now.name)))
    (ranks_by total (λ n. components n.logger.now.name)) (always_returns_same _ _ _ (λ a r f k. search rules))
