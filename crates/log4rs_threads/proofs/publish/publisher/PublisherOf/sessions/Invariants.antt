use Rattle.std.proofs.Common.{◌≡◌, replicate}
use Rattle.log4rs_threads.specs.States.{newcomer}
use Rattle.log4rs_threads.proofs.publish.publisher.PublisherOf.sessions.Given as goal

-- so many sessions were made, and the publisher is as it was
abbrev pub invariant-loop-seat : goal.invariant-loop-seat
invariant-loop-seat g l = (l.self ≡ l.fn.self) × (l.made.items ≡ replicate l._seat (newcomer l.fn.self))
