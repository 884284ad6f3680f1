use Rattle.std.proofs.Common.{◌≡◌, ap, Some, length, slice_get, arith}
use Rattle.std.proofs.lemmas.List.Sorted.{length_permutation}
use Rattle.std.proofs.lemmas.Result.{IfOk-weaker}
use Rattle.log4rs_config.proofs.Ordered.{kept-placed, all-kept}
use Rattle.log4rs_config.proofs.Rising.{length-same}
use Rattle.log4rs_config.proofs.routes.in_order.Goals as goal

pub returns-clause-places : goal.returns-clause-places
returns-clause-places c =
    IfOk-weaker c.risen.result _ _ (λ kept among. kept-placed (λ n. slice_get c.args.loggers.now n.place ≡ Some n.logger.now) c.in_ok-all.all.items c.sort.new.all.items kept.items
    c.in_ok-sort.ensures.same c.in_ok-all.ensures.places (rw c.deref.ensures.value at among)) c.risen.ensures.among

pub returns-clause-fewer : goal.returns-clause-fewer
returns-clause-fewer c =
    let long = length_permutation c.in_ok-all.all.items c.sort.new.all.items c.in_ok-sort.ensures.same in
    let all = ap length c.in_ok-all.ensures.loggers in
    let same = length-same (λ n. n.logger.now) c.in_ok-all.all.items in
    let one = ap length c.deref.ensures.value in
    IfOk-weaker c.risen.result _ _ (λ kept few. omega (arith, few, long, all, same, one)) c.risen.ensures.fewer

pub returns-clause-same : goal.returns-clause-same
returns-clause-same c =
    IfOk-weaker c.risen.result _ _ (λ kept keeps distinct. all-kept (λ n. n.logger.now) c.args.loggers.now c.in_ok-all.all.items c.sort.new.all.items kept.items
    c.in_ok-all.ensures.loggers c.in_ok-sort.ensures.same c.in_ok-sort.ensures.sorted (rw c.deref.ensures.value at keeps) distinct) c.risen.ensures.all
