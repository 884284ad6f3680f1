use Rattle.std.proofs.Common.{◌≡◌, [], ◌∷◌, ◌++◌, Ok, Err, decimal, length, map, sym, ap, ◌∙◌, append_assoc}
use Rattle.std.proofs.lemmas.List.{length-map}
use Rattle.std.proofs.lemmas.Result.{err_from_is_err_and}
use Rattle.log4rs_settings.specs.View.{view, items_view}
use Rattle.log4rs_settings.specs.Part.{Part, under, each_item}
use Rattle.log4rs_settings.specs.Component.{read_filter, filter_view, filters_view}
use Rattle.log4rs_settings.proofs.Below.{refused_within, taken_within}
use Rattle.log4rs_settings.proofs.Each.{each_item-last, each_item-refused, map-last}
use Rattle.log4rs_settings.proofs.component.read_each.Goals as goal

pub returns-in_err-filter : goal.returns-in_err-filter
returns-in_err-filter c =
    let l = c.loop-tree in
    let left = c.next.new.self.rest.items in
    let all : c.args.trees.items ≡ l.yielded ++ c.in-Some.tree ∷ left = l.invariant.0 ∙ ap (λ ts. l.yielded ++ ts) c.in-Some.ensures.steps.0 in
    let behind : c.len.result ≡ length (map filter_view l.filters.items) =
    c.len.ensures ∙ l.filters.ok.0 ∙ sym (length-map l.filters.items filter_view) in
    let p = err_from_is_err_and c.from_residual.result c.from_residual.ensures.1 in
    let refused : (f : Part) → read_filter (view c.in-Some.tree) ≡ Err f → each_item read_filter 0 (items_view c.args.trees.items) ≡ Err (under (decimal c.len.result) f) =
    λ f here. ap (λ ts. each_item read_filter 0 (items_view ts)) all ∙ each_item-refused read_filter l.yielded c.in-Some.tree left _ f c.len.result behind l.invariant.1 here in
    rw (p.1, p.2) (refused_within filter_view filters_view (decimal c.len.result) _ _ c.read_placed-filter.result _ refused c.read_placed-filter.ensures c.in_err-filter.ensures)

pub loop-tree-preserved : goal.loop-tree-preserved
loop-tree-preserved c =
    let l = c.loop-tree in
    let left = c.next.new.self.rest.items in
    let all : c.args.trees.items ≡ l.yielded ++ c.in-Some.tree ∷ left = l.invariant.0 ∙ ap (λ ts. l.yielded ++ ts) c.in-Some.ensures.steps.0 in
    let here : read_filter (view c.in-Some.tree) ≡ Ok (filter_view c.in_ok-filter.filter) =
    taken_within filter_view (decimal c.len.result) _ c.read_placed-filter.result c.in_ok-filter.filter c.read_placed-filter.ensures c.in_ok-filter.ensures in (
      all ∙ sym (append_assoc l.yielded (c.in-Some.tree ∷ []) left),
      rw (c.in_ok-push.ensures.items, map-last) (each_item-last read_filter 0 l.yielded c.in-Some.tree _ _ l.invariant.1 here),
    )
