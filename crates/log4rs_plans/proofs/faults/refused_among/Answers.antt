use Rattle.std.proofs.Common.{◌≡◌, ◌+◌, [], ◌∷◌, ◌++◌, None, Some, ap, append-nil, map, rules, string_bytes, sym, take, ◌∙◌}
use Rattle.std.specs.Option.{option_to_list}
use Rattle.std.proofs.lemmas.List.{map-append, take_more}
use Rattle.log4rs_plans.specs.Outcomes.{error_of, refused_name}
use Rattle.log4rs_plans.proofs.Asking.{given_next}
use Rattle.log4rs_plans.proofs.faults.refused_among.Goals.{in-Some+in_ok-from_str+in_ok-push, in_default}
use Rattle.log4rs_plans.proofs.faults.refused_among.Goals as goal

pub loop-error-preserved : goal.loop-error-preserved
loop-error-preserved c =
    let xs = c.args.errors.now in
    let i = c.loop-error.error-index in
    let x = c.error-item.result in
    let done = c.loop-error.names.items in
    let grown : map error_of (take (i + 1) xs) ≡ map error_of (take i xs) ++ error_of x ∷ [] =
    ap (map error_of) (take_more xs i x c.loop-error-test.true ∙ ap (λ y. take i xs ++ y ∷ []) (sym c.error-item.is)) ∙ map-append error_of (take i xs) (x ∷ []) in
    elim c.match-refused_name.branch [
      | in-Some+in_ok-from_str+in_ok-push w ↦
          let here : Some (string_bytes w.in_ok-from_str.field-0) ≡ refused_name (error_of x) = search rules in
          rw (w.names-is, w.in_ok-push.ensures.items, grown) (map-append (λ s. string_bytes s) done _ ∙ given_next refused_name (map error_of (take i xs)) (error_of x) (map (λ s. string_bytes s) done) _ c.loop-error.invariant here)
      | in_default w ↦
          let none : None ≡ refused_name (error_of x) = search rules in
          rw (w.names-is, grown) (sym (append-nil (map (λ s. string_bytes s) done)) ∙ given_next refused_name (map error_of (take i xs)) (error_of x) (map (λ s. string_bytes s) done) None c.loop-error.invariant none)
    ]
