use Rattle.std.proofs.Common.{◌≡◌, ◌++◌, [], length}
use Rattle.log4rs_config.specs.Lossy.{firsts}
use Rattle.log4rs_config.proofs.Keeping.{marked}
use Rattle.log4rs_config.proofs.runtime.lossy.keep_firsts.Given as goal

-- what was kept, and what is left with a mark, are the first of each name
abbrev pub invariant-loop-item : goal.invariant-loop-item
invariant-loop-item g l =
    (length l.item-iterator.a.rest.items ≡ length l.item-iterator.b.rest.items)
    × (l.kept.items ++ marked l.item-iterator.a.rest.items l.item-iterator.b.rest.items ≡ firsts g.T.Named.name [] l.fn.items.items)
