use Rattle.std.proofs.Common.{◌∙◌, ap}
use Rattle.left_right.specs.Sides.{view}
use Rattle.log4rs_threads.specs.Shows.{shown, with_told}
use Rattle.log4rs_threads.specs.declared.publish.published.Published.{Published}
use Rattle.log4rs_threads.proofs.Looking.{at_ok, is_of, shows, shown_next}
use Rattle.log4rs_threads.proofs.publish.swap_writer.publish_by.Goals as goal

pub publish_as-after-requires : goal.publish_as-after-requires
publish_as-after-requires g c =
    let i = c.loop.invariant in
    let p = c.args.writer.desk.shown.value in
    let published_swap = c.args.published_swap in
    rw i.0
    (λ next e.
    shows c.loop.writer.desk.place.id (view c.loop.writer.desk.place) p next published_swap.told
    (shown_next (shown p) (shown next) i.2.0 published_swap _ i.2.1 e) (is_of (shown p).opening published_swap c.requires.book c.requires.names) c.requires.more)

pub returns-in-Ok-clause-shown : goal.returns-in-Ok-clause-shown
returns-in-Ok-clause-shown g c =
    let i = c.loop.invariant in
    let published_swap = c.args.published_swap in
    let values = at_ok c.publish_as-after.result.1 _ _ _ c.in-Ok.is c.publish_as-after.ensures.values in
    shown_next (shown c.loop.writer.desk.shown.value) (shown c.publish_as-after.result.0.desk.shown.value) i.2.0 published_swap _ i.2.1 values.0
    ∙ ap (λ (p : Published). with_told (shown p) published_swap.told) i.0
