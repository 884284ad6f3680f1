use Rattle.std.proofs.Common.{refl}
use Rattle.log4rs_config.proofs.Ordered.{place-pushed}
use Rattle.log4rs_config.proofs.routes.with_places.Goals as goal

pub loop-place-preserved : goal.loop-place-preserved
loop-place-preserved c =
    place-pushed (λ n. n.logger.now) (λ n. n.place) c.args.loggers.now c.loop-place.all.items _ _ c.loop-place.place c.loop-place-test.true
    c.index-loggers-place.is refl c.in_ok-push.ensures.items c.loop-place.invariant
