use Rattle.std.proofs.Common.{ℕ, sym, subst, arith, ◌∙◌}
use Rattle.log4rs_config.specs.Standing.{AreShared}
use Rattle.log4rs_config.proofs.Alike.{begins-shared, digest-less, digest-more, all-bytes}
use Rattle.log4rs_config.proofs.search.order_at.Goals as goal

pub returns-then-digest-wanted-clause-order : goal.returns-then-digest-wanted-clause-order
returns-then-digest-wanted-clause-order c =
    digest-less c.args.name.now c.args.target.now c.args.common.now c.requires.name c.requires.begins
    (all-bytes c.args.target.now (λ i. let f = c.type_inv.target i in omega (arith, f))) (omega (arith, c.if-digest-wanted.true, c.requires.digest, c.requires.wanted))

pub returns-then-digest-wanted-clause-known : goal.returns-then-digest-wanted-clause-known
returns-then-digest-wanted-clause-known c = (begins-shared c.args.name.now c.args.target.now c.args.common.now c.requires.name c.requires.begins, tt)

pub returns-then-wanted-digest-clause-order : goal.returns-then-wanted-digest-clause-order
returns-then-wanted-digest-clause-order c =
    digest-more c.args.name.now c.args.target.now c.args.common.now c.requires.name c.requires.begins
    (all-bytes c.args.name.now (λ i. let f = c.type_inv.name i in omega (arith, f))) (omega (arith, c.if-wanted-digest.true, c.requires.digest, c.requires.wanted))

pub returns-then-wanted-digest-clause-known : goal.returns-then-wanted-digest-clause-known
returns-then-wanted-digest-clause-known c = (begins-shared c.args.name.now c.args.target.now c.args.common.now c.requires.name c.requires.begins, tt)

pub compare_from-standing-requires : goal.compare_from-standing-requires
compare_from-standing-requires c = subst (λ (n : ℕ). AreShared c.args.name.now c.args.target.now n) (sym c.min.ensures) c.requires.shared

pub returns-clause-order : goal.returns-clause-order
returns-clause-order c = c.compare_from-standing.ensures.order ∙ sym c.order.ensures
