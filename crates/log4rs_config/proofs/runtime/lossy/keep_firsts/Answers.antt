use Rattle.std.proofs.Common.{◌≡◌, ◌∙◌, ◌++◌, refl, sym, ap, map, List, length, []}
use Rattle.log4rs_config.specs.Lossy.{are_first}
use Rattle.log4rs_config.proofs.Keeping.{marked, marked_firsts, as_many}
use Rattle.log4rs_config.proofs.runtime.lossy.keep_firsts.Goals as goal

pub loop-item-init : goal.loop-item-init
loop-item-init g c =
    let name = g.T.Named.name in
    let gives = c.into_iter-item-iterator.ensures.into_iter_gives in
    let items : c.into_iter-item-iterator.result.a.rest.items ≡ c.args.items.items = ap (λ z. z.a.rest.items) gives ∙ ap (λ r. r.rest.items) c.zip-item-items.ensures.first ∙ c.into_iter.ensures.rest in
    let marks : c.into_iter-item-iterator.result.b.rest.items ≡ are_first [] (map name c.args.items.items) =
    ap (λ z. z.b.rest.items) gives ∙ c.zip-item-items.ensures.second.0 ∙ c.in_ok-marks.ensures ∙ ap (λ (l : List g.row.T.Denot). are_first [] (map name l)) c.deref.ensures.value in (
      ap length items ∙ as_many name [] c.args.items.items ∙ ap length (sym marks),
      ap (λ (kept : List g.row.T.Denot). kept ++ marked c.into_iter-item-iterator.result.a.rest.items c.into_iter-item-iterator.result.b.rest.items) c.new-kept.ensures.items
          ∙ ap (λ (l : List g.row.T.Denot). marked l c.into_iter-item-iterator.result.b.rest.items) items
          ∙ ap (marked c.args.items.items) marks
          ∙ marked_firsts name [] [] c.args.items.items (λ n. refl),
    )
