use Rattle.std.proofs.Common.{◌≡◌, ◌+◌, [], ◌∷◌, ◌++◌, map, take, string_bytes, sym, ap, ◌∙◌, arith}
use Rattle.std.proofs.lemmas.List.{take_more, map-append}
use Rattle.std.specs.Str.{bytes_eq}
use Rattle.log4rs_parts.specs.NamedParts.{entry}
use Rattle.log4rs_parts.proofs.Earliest.{count-yes, count-no}
use Rattle.log4rs_parts.proofs.handed.NamedParts.count.Goals.{then-eq, else-eq}
use Rattle.log4rs_parts.proofs.handed.NamedParts.count.Goals as goal

pub loop-named-preserved : goal.loop-named-preserved
loop-named-preserved g c =
    let xs = c.deref-named-items.result.now in
    let i = c.loop-named.named-index in
    let x = c.named-item.result in
    let name = c.args.appender.now in
    let es = map entry (take i xs) in
    let was = c.loop-named.invariant in
    let grown : map entry (take (i + 1) xs) ≡ map entry (take i xs) ++ entry x ∷ [] =
    ap (map entry) (take_more xs i x c.loop-named-test.true ∙ ap (λ y. take i xs ++ y ∷ []) (sym c.named-item.is)) ∙ map-append entry (take i xs) (x ∷ []) in
    let seen : bytes_eq (string_bytes x.appender) name ≡ c.eq.result = ap (λ n. bytes_eq n name) (sym c.as_str.ensures.value) ∙ sym c.eq.ensures in
    elim c.if-eq.branch [
      | then-eq w ↦ rw (w.count-is, grown) (omega (arith, was.0), omega (arith, was.1, count-yes name es (entry x) (seen ∙ w.if-eq.true)))
      | else-eq w ↦ rw (w.count-is, grown) (omega (arith, was.0), was.1 ∙ sym (count-no name es (entry x) (seen ∙ w.if-eq.false)))
    ]
