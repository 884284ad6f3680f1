use Rattle.std.proofs.Common.{◌∙◌, sym, ap, subst, IsSome, IsTrue}
use Rattle.log4rs_rolling.specs.Change.{Files}
use Rattle.log4rs_rolling.specs.Disk.{closed_at}
use Rattle.log4rs_restarts.specs.Stops.{start_of}
use Rattle.log4rs_restarts.proofs.Spending.{store_counts, closed_twice, refuses_later, same_files, stop_refuses, store_refuses, if_err, on_err, on_ok, stop_counts, made_more}
use Rattle.log4rs_restarts.proofs.stopping.StoppingStore.copy.Goals as goal

pub returns-then-not-spend-clause-err : goal.returns-then-not-spend-clause-err
returns-then-not-spend-clause-err g c =
    let disk = g.S.Store.disk in
    stop_refuses (start_of c.args.self.now.limit (disk c.args.self.now.begun.value)) c.args.self.now.stopped c.refuse.new.stopped c.args.self.now.denied c.refuse.new.denied (disk c.args.self.now.inner) (disk c.leave_both.new.inner) _ c.leave_both.ensures.closed c.refuse.ensures.stopped

pub returns-clause-err : goal.returns-clause-err
returns-clause-err g c =
    let disk = g.S.Store.disk in
    let d0 = disk c.args.self.now.inner in
    let from = c.args.from.now in
    let to = c.args.to.now in
    on_err c.copy.result _ _
    (λ refuses. store_refuses (start_of c.args.self.now.limit (disk c.args.self.now.begun.value)) c.args.self.now.stopped c.args.self.now.denied c.args.self.now.denied d0 (disk c.copy.new.self) _
    (refuses_later d0 (disk c.leave_both.new.inner) (disk c.copy.new.self) _ _ _ c.leave_both.ensures.closed refuses
    (λ tells. ap (λ o. closed_at from (closed_at to o)) (c.leave_both.ensures.closed.opened tells) ∙ closed_twice from to d0.opened)))
    c.copy.ensures.err

pub returns-clause-present : goal.returns-clause-present
returns-clause-present g c =
    λ tells.
    let disk = g.S.Store.disk in
    let same = same_files (start_of c.args.self.now.limit (disk c.args.self.now.begun.value)) c.args.self.now.stopped c.args.self.now.denied (disk c.args.self.now.inner) (disk c.leave_both.new.inner) _ c.leave_both.ensures.closed tells in
    let tells1 = subst IsTrue (sym c.leave_both.ensures.closed.tells) tells in
    on_ok c.copy.result _ _ (λ there. subst (λ (f : Files). IsSome (f c.args.from.now)) (sym same) there) (c.copy.ensures.present tells1)

pub returns-clause-absent : goal.returns-clause-absent
returns-clause-absent g c =
    λ tells.
    let disk = g.S.Store.disk in
    let same = same_files (start_of c.args.self.now.limit (disk c.args.self.now.begun.value)) c.args.self.now.stopped c.args.self.now.denied (disk c.args.self.now.inner) (disk c.leave_both.new.inner) _ c.leave_both.ensures.closed tells in
    if_err c.copy.result _ _ (λ e gone is. ap (λ (f : Files). f c.args.from.now) same ∙ gone is) (c.copy.ensures.absent (subst IsTrue (sym c.leave_both.ensures.closed.tells) tells))

pub returns-then-not-spend-clause-counted : goal.returns-then-not-spend-clause-counted
returns-then-not-spend-clause-counted g c =
    let disk = g.S.Store.disk in
    stop_counts _ (start_of c.args.self.now.limit (disk c.args.self.now.begun.value)) c.args.self.now.stopped c.refuse.new.stopped c.args.self.now.denied c.refuse.new.denied (disk c.args.self.now.inner) (disk c.leave_both.new.inner) c.leave_both.ensures.closed.tells c.leave_both.ensures.counted c.refuse.ensures.stopped c.refuse.ensures.denied

pub invariant_of-self-2-clause-made : goal.invariant_of-self-2-clause-made
invariant_of-self-2-clause-made g c =
    let disk = g.S.Store.disk in
    made_more _ (disk c.leave_both.new.inner) (disk c.copy.new.self) (disk c.args.self.now.begun.value).operations c.args.self.now.passed c.spend.new.passed
    c.copy.ensures.counted (λ tells. let was = subst IsTrue c.leave_both.ensures.closed.tells tells in c.leave_both.ensures.counted.operations was ∙ c.args.self.now.made was) (c.spend.ensures.counted c.if-not-spend.false)

pub returns-clause-counted : goal.returns-clause-counted
returns-clause-counted g c =
    let disk = g.S.Store.disk in
    store_counts c.copy.result (start_of c.args.self.now.limit (disk c.args.self.now.begun.value)) c.args.self.now.stopped c.args.self.now.denied (disk c.args.self.now.inner) (disk c.leave_both.new.inner) (disk c.copy.new.self) c.leave_both.ensures.closed.tells c.leave_both.ensures.counted c.copy.ensures.counted
