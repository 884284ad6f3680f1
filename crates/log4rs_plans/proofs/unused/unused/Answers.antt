use Rattle.std.proofs.Common.{arith, refl}
use Rattle.log4rs_plans.proofs.Listing.{one_more_place}
use Rattle.log4rs_plans.proofs.unused.unused.Goals as goal

pub loop-place-preserved : goal.loop-place-preserved
loop-place-preserved c =
    let appenders = c.args.plans.now.appenders in
    one_more_place _ _ appenders.items c.loop-place.place _ _ _ _ _ (omega (arith, appenders.ok.0)) c.index.ensures c.loop-place.invariant c.in_ok-add_where-2.ensures
    (rw (c.is_named-is_so.ensures, c.as_str.ensures.value) refl)
