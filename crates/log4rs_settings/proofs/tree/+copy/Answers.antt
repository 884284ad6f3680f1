use Rattle.std.proofs.Common.{◌≡◌, [], ◌∷◌, ◌++◌, string_bytes, sym, ap, ◌∙◌, subst, append_assoc}
use Rattle.std.specs.List.Sorted.{IsStrictlySortedBy}
use Rattle.std.specs.Map.{keys_of}
use Rattle.std.specs.String.{string_cmp}
use Rattle.log4rs_settings.proofs.Trees.{Entry, insert_last, members_view-last, names-last}
use Rattle.log4rs_settings.proofs.tree.+copy.Goals as goal

pub copy_members-loop-key-preserved : goal.copy_members-loop-key-preserved
copy_members-loop-key-preserved t c =
    let l = c.loop-key in
    let done = l.invariant.0 in
    let e : Entry = (c.in-Some.key.now, c.in-Some.member.now) in
    let left = c.next.new.self in
    let all : c.args.members.now.entries ≡ done ++ e ∷ left = l.invariant.1 ∙ ap (λ es. done ++ es) c.in-Some.ensures.steps in
    let sorted = subst (λ es. IsStrictlySortedBy string_cmp (keys_of es)) all c.iter-key-items.ensures.ordered in
    let named : string_bytes c.in_ok-name.name ≡ string_bytes e.0 = c.in_ok-name.ensures.cases in
    let grown : c.insert.new.self.entries ≡ l.copies.entries ++ (c.in_ok-name.name, c.in_ok-copy.field-0) ∷ [] =
    c.in_ok-insert.ensures.entries ∙ insert_last l.copies.entries done e left c.in_ok-name.name c.in_ok-copy.field-0 l.invariant.2 named sorted in (
      done ++ e ∷ [],
      all ∙ sym (append_assoc done (e ∷ []) left),
      rw grown (names-last l.copies.entries done c.in_ok-name.name e.0 c.in_ok-copy.field-0 e.1 l.invariant.2 named),
      rw (grown, members_view-last l.copies.entries c.in_ok-name.name c.in_ok-copy.field-0, named, c.in_ok-copy.ensures, l.invariant.3) (sym (members_view-last done e.0 e.1)),
    )
