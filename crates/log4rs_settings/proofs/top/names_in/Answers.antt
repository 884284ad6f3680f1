use Rattle.std.proofs.Common.{◌≡◌, [], ◌∷◌, ◌++◌, Ok, Err, decimal, length, map, string_bytes, sym, ap, ◌∙◌, append_assoc}
use Rattle.std.proofs.lemmas.List.{length-map}
use Rattle.std.proofs.lemmas.Result.{err_from_is_err_and}
use Rattle.log4rs_settings.specs.View.{view, items_view}
use Rattle.log4rs_settings.specs.Part.{Part, under, each_item}
use Rattle.log4rs_settings.specs.Loggers.{read_name, names_view}
use Rattle.log4rs_settings.proofs.Below.{refused_within, taken_within}
use Rattle.log4rs_settings.proofs.Each.{each_item-last, each_item-refused}
use Rattle.log4rs_settings.proofs.Texts.{names-last}
use Rattle.log4rs_settings.proofs.top.names_in.Goals as goal

pub returns-in_err-name : goal.returns-in_err-name
returns-in_err-name c =
    let l = c.loop-tree in
    let left = c.next.new.self.rest.items in
    let all : c.args.trees.items ≡ l.yielded ++ c.in-Some.tree ∷ left = l.invariant.0 ∙ ap (λ ts. l.yielded ++ ts) c.in-Some.ensures.steps.0 in
    let behind : c.len.result ≡ length (map string_bytes l.names.items) =
    c.len.ensures ∙ l.names.ok.0 ∙ sym (length-map l.names.items string_bytes) in
    let p = err_from_is_err_and c.from_residual.result c.from_residual.ensures.1 in
    let refused : (f : Part) → read_name (view c.in-Some.tree) ≡ Err f → each_item read_name 0 (items_view c.args.trees.items) ≡ Err (under (decimal c.len.result) f) =
    λ f here. ap (λ ts. each_item read_name 0 (items_view ts)) all ∙ each_item-refused read_name l.yielded c.in-Some.tree left _ f c.len.result behind l.invariant.1 here in
    rw (p.1, p.2) (refused_within string_bytes names_view (decimal c.len.result) _ _ c.name_of.result _ refused c.name_of.ensures c.in_err-name.ensures)

pub loop-tree-preserved : goal.loop-tree-preserved
loop-tree-preserved c =
    let l = c.loop-tree in
    let left = c.next.new.self.rest.items in
    let all : c.args.trees.items ≡ l.yielded ++ c.in-Some.tree ∷ left = l.invariant.0 ∙ ap (λ ts. l.yielded ++ ts) c.in-Some.ensures.steps.0 in
    let here : read_name (view c.in-Some.tree) ≡ Ok (string_bytes c.in_ok-name.name) =
    taken_within string_bytes (decimal c.len.result) _ c.name_of.result c.in_ok-name.name c.name_of.ensures c.in_ok-name.ensures in (
      all ∙ sym (append_assoc l.yielded (c.in-Some.tree ∷ []) left),
      rw (c.in_ok-push.ensures.items, names-last) (each_item-last read_name 0 l.yielded c.in-Some.tree _ _ l.invariant.1 here),
    )
