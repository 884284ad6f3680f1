use Rattle.std.proofs.Common.{◌∙◌, sym}
use Rattle.log4rs_config.specs.Name.{components}
use Rattle.log4rs_config.proofs.Ordered.{one-kept, one-left_out}
use Rattle.log4rs_config.proofs.routes.risen.Goals as goal
use Rattle.log4rs_config.proofs.routes.risen.Goals.{then-follows+in_ok-push, else-follows}

pub loop-one-preserved : goal.loop-one-preserved
loop-one-preserved c =
    let told = rw c.deref.ensures.value at c.follows.ensures in
    elim c.if-follows.branch [
      | then-follows+in_ok-push w ↦
          rw w.kept-is (one-kept (λ n. components n.logger.now.name) c.args.sorted.now c.loop-one.kept.items _ c.loop-one.one-index c.one-item.result c.loop-one-test.true c.one-item.is
          (sym told ∙ w.if-follows.true) w.in_ok-push.ensures.items c.loop-one.invariant)
      | else-follows w ↦
          rw w.kept-is (one-left_out (λ n. components n.logger.now.name) c.args.sorted.now c.loop-one.kept.items c.loop-one.one-index c.one-item.result c.loop-one-test.true c.one-item.is
          (sym told ∙ w.if-follows.false) c.loop-one.invariant)
    ]
