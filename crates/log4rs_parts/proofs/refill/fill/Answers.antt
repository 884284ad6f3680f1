use Rattle.std.proofs.Common.{◌≡◌, ◌+◌, [], ◌∷◌, ◌++◌, map, take, take_all, subst, sym, ap, ◌∙◌}
use Rattle.std.proofs.lemmas.List.{take_more, map-append}
use Rattle.log4rs_parts.specs.Refilled.{Fills}
use Rattle.log4rs_parts.specs.NamedParts.{entry}
use Rattle.log4rs_parts.specs.Waits.{waits_in, with_part}
use Rattle.log4rs_parts.proofs.Refilling.{fills-none, fills-more}
use Rattle.log4rs_parts.proofs.refill.fill.Goals as goal

pub loop-named-init : goal.loop-named-init
loop-named-init g c = fills-none g.P.PartMaker.Makes (waits_in c.args.handed.now)

pub loop-named-preserved : goal.loop-named-preserved
loop-named-preserved g c =
    let xs = c.deref-named-items.result.now in
    let i = c.loop-named.named-index in
    let x = c.named-item.result in
    let grown : map entry (take (i + 1) xs) ≡ map entry (take i xs) ++ entry x ∷ [] =
    ap (map entry) (take_more xs i x c.loop-named-test.true ∙ ap (λ y. take i xs ++ y ∷ []) (sym c.named-item.is)) ∙ map-append entry (take i xs) (x ∷ []) in
    let named = ap (λ n. with_part n c.in_ok-part.part (waits_in c.loop-named.handed)) c.as_str.ensures.value in
    rw grown (fills-more g.P.PartMaker.Makes (map entry (take i xs)) (entry x) c.in_ok-part.part _ _ _ c.loop-named.invariant c.in_ok-part.ensures (c.in_ok-put.ensures.ok ∙ named))

pub returns : goal.returns
returns g c =
    let xs = c.deref-named-items.result.now in
    let whole : map entry (take c.loop-named.named-index xs) ≡ map entry c.args.makers.now.parts.items =
    ap (map entry) (take_all c.loop-named.named-index xs c.loop-named-test.false ∙ c.deref-named-items.ensures.value) in
    subst (λ ms. Fills g.P.PartMaker.Makes ms (waits_in c.args.handed.now) (waits_in c.loop-named.handed)) whole c.loop-named.invariant
