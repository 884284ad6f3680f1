use Rattle.std.proofs.Common.{arith, sym, ◌∙◌, ap, ◌++◌, ◌∷◌, [], Bool, List, true, subst, append_assoc, slice_index_or, get_or}
use Rattle.log4rs_config.proofs.Deliveries.{made_more}
use Rattle.log4rs_config.proofs.delivery.deliver_each.Goals as goal

pub loop-at-preserved : goal.loop-at-preserved
loop-at-preserved g c =
    let inv = c.loop-at.invariant in
    let so_far = inv.5 in
    let here = c.append-answer.ensures in
    let k = c.loop-at.at-index in
    let r = c.args.«record».now in
    let through = ap (λ (bs : List Bool). slice_index_or bs (get_or c.args.places.now k 0) true) (sym (inv.3 r)) ∙ sym c.if-not-admits.ensures in (
      here.size ∙ inv.0,
      here.identity ∙ inv.1,
      omega (arith, inv.2, c.note.ensures.room),
      (λ s. here.routes.admits s ∙ inv.3 s),
      here.routes.settings ∙ inv.4,
      (
        so_far.0 ++ (get_or c.args.places.now k 0, c.append-answer.result) ∷ [],
        made_more _ _ c.args.places.now k so_far.0 c.append-answer.result _ _ _ c.loop-at-test.true through so_far.1 here.appends,
        (λ before noted. subst (g.N.NoteDeliveries.noted c.note.new.self) (append_assoc before so_far.0 _) (c.note.ensures.noted (before ++ so_far.0) (so_far.2 before noted))),
      ),
    )
