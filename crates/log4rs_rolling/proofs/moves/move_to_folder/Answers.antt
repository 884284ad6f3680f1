use Rattle.std.proofs.Common.{rules}
use Rattle.log4rs_rolling.proofs.Moving.{not_moved, nothing_moved}
use Rattle.log4rs_rolling.proofs.moves.move_to_folder.Goals as goal

pub returns-in_err-make_parent-clause-moved : goal.returns-in_err-make_parent-clause-moved
returns-in_err-make_parent-clause-moved g c = not_moved _ _ _ _ _ _ (λ X. search rules) (nothing_moved _ _ _ _ _ c.make_parent.ensures.calls) c.make_parent.ensures.closed (search rules)
