use Rattle.std.proofs.Common.{◌≡◌, ◌+◌, [], ◌∷◌, ◌++◌, take, drop, string_bytes, sym, ap, subst, ◌∙◌, append_assoc}
use Rattle.std.proofs.lemmas.List.{take_more, drop_more, take-append-drop}
use Rattle.std.proofs.lemmas.Result.{err_from_is_err_and}
use Rattle.std.specs.List.Sorted.{IsStrictlySortedBy}
use Rattle.std.specs.Map.{keys_of}
use Rattle.std.specs.String.{string_cmp}
use Rattle.serde_json.proofs.Views.{Entry}
use Rattle.log4rs_settings.proofs.Trees.{items_view-push, insert_last, members_view-last, names-last}
use Rattle.log4rs_settings.proofs.Json.{items-last, items-refused, members-last, members-refused}
use Rattle.log4rs_settings.proofs.convert.+json.Goals as goal

pub json_list-returns-in_err-json_tree-clause-err : goal.json_list-returns-in_err-json_tree-clause-err
json_list-returns-in_err-json_tree-clause-err t c =
    let p = err_from_is_err_and c.from_residual-in_err-json_tree.result c.from_residual-in_err-json_tree.ensures.1 in
    let xs = c.deref-item-items.result.now in
    let i = c.loop-item.item-index in
    let v = c.item-item.result in
    let whole : c.args.items.now.items ≡ take i xs ++ v ∷ drop (i + 1) xs =
    sym c.deref-item-items.ensures.value ∙ sym (take-append-drop i xs) ∙ ap (λ r. take i xs ++ r) (drop_more xs i v c.loop-item-test.true ∙ ap (λ y. y ∷ drop (i + 1) xs) (sym c.item-item.is)) in
    rw (p.1, p.2, whole) (λ other. items-refused (take i xs) v (drop (i + 1) xs) _ _ c.loop-item.invariant (c.in_err-json_tree.ensures.err other))

pub json_list-loop-item-preserved : goal.json_list-loop-item-preserved
json_list-loop-item-preserved t c =
    rw (take_more c.deref-item-items.result.now c.loop-item.item-index c.item-item.result c.loop-item-test.true, ← c.item-item.is, c.in_ok-push.ensures.items, items_view-push)
    (items-last _ c.item-item.result _ _ c.loop-item.invariant c.in_ok-json_tree.ensures.ok)

pub json_map-returns-in_err-tree-clause-err : goal.json_map-returns-in_err-tree-clause-err
json_map-returns-in_err-tree-clause-err t c =
    let p = err_from_is_err_and c.from_residual.result c.from_residual.ensures.1 in
    let l = c.loop-key in
    let done = l.invariant.0 in
    let e : Entry = (c.in-Some.key.now, c.in-Some.member.now) in
    let left = c.next.new.self in
    let all : c.args.members.now.entries ≡ done ++ e ∷ left = l.invariant.1 ∙ ap (λ es. done ++ es) c.in-Some.ensures.steps in
    rw (p.1, p.2, all) (λ other. members-refused done e.0 e.1 left _ _ l.invariant.3 (c.in_err-tree.ensures.err other))

pub json_map-loop-key-preserved : goal.json_map-loop-key-preserved
json_map-loop-key-preserved t c =
    let l = c.loop-key in
    let done = l.invariant.0 in
    let e : Entry = (c.in-Some.key.now, c.in-Some.member.now) in
    let left = c.next.new.self in
    let all : c.args.members.now.entries ≡ done ++ e ∷ left = l.invariant.1 ∙ ap (λ es. done ++ es) c.in-Some.ensures.steps in
    let named : string_bytes c.in_ok-clone.field-0 ≡ string_bytes e.0 = c.in_ok-clone.ensures.cases in
    let sorted = subst (λ es. IsStrictlySortedBy string_cmp (keys_of es)) all c.iter-key-items.ensures.ordered in
    let grown : c.insert.new.self.entries ≡ l.trees.entries ++ (c.in_ok-clone.field-0, c.in_ok-tree.tree) ∷ [] =
    c.in_ok-insert.ensures.entries ∙ insert_last l.trees.entries done e left c.in_ok-clone.field-0 c.in_ok-tree.tree l.invariant.2 named sorted in (
      done ++ e ∷ [],
      all ∙ sym (append_assoc done (e ∷ []) left),
      rw grown (names-last l.trees.entries done c.in_ok-clone.field-0 e.0 c.in_ok-tree.tree e.1 l.invariant.2 named),
      rw (grown, members_view-last l.trees.entries c.in_ok-clone.field-0 c.in_ok-tree.tree, named) (members-last done e.0 e.1 _ _ l.invariant.3 c.in_ok-tree.ensures.ok),
    )
