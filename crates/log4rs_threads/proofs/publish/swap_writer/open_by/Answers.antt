use Rattle.std.proofs.Common.{drop}
use Rattle.log4rs_threads.specs.Shows.{shown}
use Rattle.log4rs_threads.proofs.Looking.{opens, shown_same}
use Rattle.log4rs_threads.proofs.publish.swap_writer.open_by.Goals as goal

pub publish_as-writer-requires : goal.publish_as-writer-requires
publish_as-writer-requires g c =
    let w = c.in_ok-writer.writer in
    rw c.append.ensures.desk
    (λ next e.
    opens w.desk.place.id _ w.desk.shown.value next
    (shown_same (shown w.desk.shown.value) (shown next) (drop w.behind w.log.items) _ c.in_ok-writer.ensures.1 c.in-Ok.ensures.pending e))
