use Rattle.std.proofs.Common.{refl}
use Rattle.log4rs_restarts.specs.Stops.{start_of}
use Rattle.log4rs_restarts.proofs.Spending.{store_counts, uncounted_still, still, stop_refuses, store_refuses, on_err, stop_counts}
use Rattle.log4rs_restarts.proofs.stopping.StoppingStore.make_dirs.Goals as goal

pub returns-then-not-spend-clause-err : goal.returns-then-not-spend-clause-err
returns-then-not-spend-clause-err g c =
    let disk = g.S.Store.disk in
    stop_refuses (start_of c.args.self.now.limit (disk c.args.self.now.begun.value)) c.args.self.now.stopped c.refuse.new.stopped c.args.self.now.denied c.refuse.new.denied (disk c.args.self.now.inner) (disk c.args.self.now.inner) _ (still (disk c.args.self.now.inner)) c.refuse.ensures.stopped

pub returns-clause-err : goal.returns-clause-err
returns-clause-err g c =
    let disk = g.S.Store.disk in
    on_err c.make_dirs.result _ _ (store_refuses (start_of c.args.self.now.limit (disk c.args.self.now.begun.value)) c.args.self.now.stopped c.args.self.now.denied c.args.self.now.denied (disk c.args.self.now.inner) (disk c.make_dirs.new.self) _) c.make_dirs.ensures.err

pub returns-then-not-spend-clause-counted : goal.returns-then-not-spend-clause-counted
returns-then-not-spend-clause-counted g c =
    let disk = g.S.Store.disk in
    stop_counts _ (start_of c.args.self.now.limit (disk c.args.self.now.begun.value)) c.args.self.now.stopped c.refuse.new.stopped c.args.self.now.denied c.refuse.new.denied (disk c.args.self.now.inner) (disk c.args.self.now.inner) refl (uncounted_still (disk c.args.self.now.inner)) c.refuse.ensures.stopped c.refuse.ensures.denied

pub returns-clause-counted : goal.returns-clause-counted
returns-clause-counted g c =
    let disk = g.S.Store.disk in
    store_counts c.make_dirs.result (start_of c.args.self.now.limit (disk c.args.self.now.begun.value)) c.args.self.now.stopped c.args.self.now.denied (disk c.args.self.now.inner) (disk c.args.self.now.inner) (disk c.make_dirs.new.self) refl (uncounted_still (disk c.args.self.now.inner)) c.make_dirs.ensures.counted
