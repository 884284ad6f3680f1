use Rattle.std.proofs.Common.{◌∙◌}
use Rattle.std.proofs.lemmas.List.{replicate-append-replicate}
use Rattle.log4rs_threads.specs.States.{newcomer}
use Rattle.log4rs_threads.proofs.publish.publisher.PublisherOf.sessions.Goals as goal

pub loop-seat-preserved : goal.loop-seat-preserved
loop-seat-preserved g c =
    let before = c.loop-seat.invariant in (
      c.in_ok-session.ensures.same ∙ before.0,
      c.in_ok-push.ensures.items ∙ rw (before.1, c.in_ok-session.ensures.made, before.0) (replicate-append-replicate c.loop-seat._seat 1 (newcomer c.args.self.now)),
    )
