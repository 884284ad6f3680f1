use Rattle.std.proofs.Common.{List, ap, subst}
use Rattle.log4rs_config.specs.Settings.{Settings}
use Rattle.log4rs_threads.specs.Swaps.{StartsWith}
use Rattle.log4rs_threads_tests.proofs.sessions.caught_up.Goals as goal

pub returns-clause-seen : goal.returns-clause-seen
returns-clause-seen g c =
    let told = c.learn.new.self.told in
    let all : StartsWith told c.args.publisher.now.swaps =
    subst (λ (swaps : List Settings). StartsWith told swaps) (ap (λ t. t.swaps) c.tell.ensures) c.learn.ensures.more in
    c.what_is_seen_is_what_was_swapped.ensures.all c.args.publisher.now.swaps told c.log.new.self.seen all c.in_ok-report.ensures.told c.behind.ensures.seen
