use Rattle.std.proofs.Common.{refl}
use Rattle.log4rs_restarts.specs.Stops.{start_of}
use Rattle.log4rs_restarts.proofs.Spending.{store_counts, uncounted_still, still, stop_refuses, store_refuses, on_err, stop_counts, made_more}
use Rattle.log4rs_restarts.proofs.stopping.StoppingStore.write.Goals as goal

pub returns-then-not-spend-clause-err : goal.returns-then-not-spend-clause-err
returns-then-not-spend-clause-err g c =
    let disk = g.S.Store.disk in
    stop_refuses (start_of c.args.self.now.limit (disk c.args.self.now.begun.value)) c.args.self.now.stopped c.refuse.new.stopped c.args.self.now.denied c.refuse.new.denied (disk c.args.self.now.inner) (disk c.args.self.now.inner) _ (still (disk c.args.self.now.inner)) c.refuse.ensures.stopped

pub returns-clause-err : goal.returns-clause-err
returns-clause-err g c =
    let disk = g.S.Store.disk in
    on_err c.write.result _ _ (store_refuses (start_of c.args.self.now.limit (disk c.args.self.now.begun.value)) c.args.self.now.stopped c.args.self.now.denied c.args.self.now.denied (disk c.args.self.now.inner) (disk c.write.new.self) _) c.write.ensures.err

pub returns-then-not-spend-clause-counted : goal.returns-then-not-spend-clause-counted
returns-then-not-spend-clause-counted g c =
    let disk = g.S.Store.disk in
    stop_counts _ (start_of c.args.self.now.limit (disk c.args.self.now.begun.value)) c.args.self.now.stopped c.refuse.new.stopped c.args.self.now.denied c.refuse.new.denied (disk c.args.self.now.inner) (disk c.args.self.now.inner) refl (uncounted_still (disk c.args.self.now.inner)) c.refuse.ensures.stopped c.refuse.ensures.denied

pub invariant_of-self-2-clause-made : goal.invariant_of-self-2-clause-made
invariant_of-self-2-clause-made g c =
    let disk = g.S.Store.disk in
    made_more _ (disk c.args.self.now.inner) (disk c.write.new.self) (disk c.args.self.now.begun.value).operations c.args.self.now.passed c.spend.new.passed
    c.write.ensures.counted c.args.self.now.made (c.spend.ensures.counted c.if-not-spend.false)

pub returns-clause-counted : goal.returns-clause-counted
returns-clause-counted g c =
    let disk = g.S.Store.disk in
    store_counts c.write.result (start_of c.args.self.now.limit (disk c.args.self.now.begun.value)) c.args.self.now.stopped c.args.self.now.denied (disk c.args.self.now.inner) (disk c.args.self.now.inner) (disk c.write.new.self) refl (uncounted_still (disk c.args.self.now.inner)) c.write.ensures.counted
