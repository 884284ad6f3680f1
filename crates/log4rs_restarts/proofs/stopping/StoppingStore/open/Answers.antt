use Rattle.std.proofs.Common.{IsTrue, refl, subst}
use Rattle.log4rs_restarts.specs.Stops.{start_of}
use Rattle.log4rs_restarts.proofs.Spending.{uncounted_still, store_counts, does_later, refuses_later, lack_counts, stop_refuses, store_refuses, stop_counts}
use Rattle.log4rs_restarts.proofs.stopping.StoppingStore.open.Goals as goal

pub returns-then-not-spend-clause-err : goal.returns-then-not-spend-clause-err
returns-then-not-spend-clause-err g c =
    let disk = g.S.Store.disk in
    stop_refuses (start_of c.args.self.now.limit (disk c.args.self.now.begun.value)) c.args.self.now.stopped c.refuse.new.stopped c.args.self.now.denied c.refuse.new.denied (disk c.args.self.now.inner) (disk c.shut.new.inner) _ c.shut.ensures.closed c.refuse.ensures.stopped

pub returns-in-Err-open-clause-err : goal.returns-in-Err-open-clause-err
returns-in-Err-open-clause-err g c =
    let disk = g.S.Store.disk in
    store_refuses (start_of c.args.self.now.limit (disk c.args.self.now.begun.value)) c.args.self.now.stopped c.args.self.now.denied c.args.self.now.denied (disk c.args.self.now.inner) (disk c.open.new.self) _ c.in-Err-open.ensures.err

pub returns-in-Err-clause-err : goal.returns-in-Err-clause-err
returns-in-Err-clause-err g c =
    let disk = g.S.Store.disk in
    let closes = c.shut-in_default.ensures.closed in
    store_refuses (start_of c.args.self.now.limit (disk c.args.self.now.begun.value)) c.args.self.now.stopped c.args.self.now.denied c.deny.new.denied (disk c.args.self.now.inner) (disk c.len.new.self) _
    (refuses_later (disk c.args.self.now.inner) (disk c.shut-in_default.new.inner) (disk c.len.new.self) _ _ _ closes c.in-Err.ensures.err closes.opened)

pub returns-in-Ok-len-clause-err : goal.returns-in-Ok-len-clause-err
returns-in-Ok-len-clause-err g c =
    let disk = g.S.Store.disk in
    let closes = c.shut-in_default.ensures.closed in
    stop_refuses (start_of c.args.self.now.limit (disk c.args.self.now.begun.value)) c.args.self.now.stopped _ c.args.self.now.denied c.refuse-in-Ok-len.new.denied (disk c.args.self.now.inner) (disk c.len.new.self) _
    (does_later (disk c.args.self.now.inner) (disk c.shut-in_default.new.inner) (disk c.len.new.self) _ _ _ _ closes c.in-Ok-len.ensures.ok.does closes.opened) c.refuse-in-Ok-len.ensures.stopped

pub returns-then-not-spend-clause-counted : goal.returns-then-not-spend-clause-counted
returns-then-not-spend-clause-counted g c =
    let disk = g.S.Store.disk in
    stop_counts _ (start_of c.args.self.now.limit (disk c.args.self.now.begun.value)) c.args.self.now.stopped c.refuse.new.stopped c.args.self.now.denied c.refuse.new.denied (disk c.args.self.now.inner) (disk c.shut.new.inner) c.shut.ensures.closed.tells c.shut.ensures.counted c.refuse.ensures.stopped c.refuse.ensures.denied

pub returns-in-Err-clause-counted : goal.returns-in-Err-clause-counted
returns-in-Err-clause-counted g c =
    let disk = g.S.Store.disk in
    let closes = c.shut-in_default.ensures.closed in
    lack_counts _ (start_of c.args.self.now.limit (disk c.args.self.now.begun.value)) c.args.self.now.stopped c.args.self.now.denied c.deny.new.denied (disk c.args.self.now.inner) (disk c.shut-in_default.new.inner) (disk c.len.new.self)
    closes.tells c.shut-in_default.ensures.counted c.in-Err.ensures.counted (λ tells. (c.in-Err.ensures.not_open tells).1 (closes.opened (subst IsTrue closes.tells tells))) c.deny.ensures

pub returns-in-Err-open-clause-counted : goal.returns-in-Err-open-clause-counted
returns-in-Err-open-clause-counted g c =
    let disk = g.S.Store.disk in
    store_counts _ (start_of c.args.self.now.limit (disk c.args.self.now.begun.value)) c.args.self.now.stopped c.args.self.now.denied (disk c.args.self.now.inner) (disk c.args.self.now.inner) (disk c.open.new.self) refl (uncounted_still (disk c.args.self.now.inner)) c.in-Err-open.ensures.counted
