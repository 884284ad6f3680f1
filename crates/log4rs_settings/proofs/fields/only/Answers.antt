use Rattle.std.proofs.Common.{◌≡◌, Err, [], ◌∷◌, ◌++◌, map, string_bytes, refl, sym, ap, ◌∙◌, append_assoc}
use Rattle.std.specs.List.{list_any}
use Rattle.std.specs.Str.{bytes_eq}
use Rattle.log4rs_settings.specs.Fault.{unknown_field}
use Rattle.log4rs_settings.specs.Fields.{only_known, is_among}
use Rattle.log4rs_settings.specs.Reading.{bytes_now}
use Rattle.log4rs_settings.specs.View.{members_view}
use Rattle.log4rs_settings.proofs.Trees.{Entry}
use Rattle.log4rs_settings.proofs.Names.{only_known-last, only_known-refused, is_among-now}
use Rattle.log4rs_settings.proofs.fields.only.Goals as goal

pub returns-then-not-is_known : goal.returns-then-not-is_known
returns-then-not-is_known c =
    let l = c.loop-key in
    let done = l.invariant.0 in
    let e : Entry = (c.in-Some.key.now, c.in-Some.field-0-1.now) in
    let left = c.next.new.self in
    let all : c.args.object.now.entries ≡ done ++ e ∷ left = l.invariant.1 ∙ ap (λ es. done ++ es) c.in-Some.ensures.steps in
    let seen : is_among (string_bytes e.0) (map bytes_now c.args.known.now) ≡ c.is_known.result =
    sym (is_among-now (string_bytes e.0) c.args.known.now) ∙ ap (λ k. list_any (λ name. bytes_eq name.now k) c.args.known.now) (sym c.as_str.ensures.value) ∙ sym c.is_known.ensures in
    let refused : only_known (map bytes_now c.args.known.now) (members_view c.args.object.now.entries) ≡ Err (unknown_field (string_bytes e.0)) =
    rw all (only_known-refused (map bytes_now c.args.known.now) done e left l.invariant.2 (seen ∙ c.if-not-is_known.true)) in
    rw (refused, c.of_object.ensures, c.in_ok-clone.ensures.cases) refl

pub loop-key-preserved : goal.loop-key-preserved
loop-key-preserved c =
    let l = c.loop-key in
    let done = l.invariant.0 in
    let e : Entry = (c.in-Some.key.now, c.in-Some.field-0-1.now) in
    let left = c.next.new.self in
    let all : c.args.object.now.entries ≡ done ++ e ∷ left = l.invariant.1 ∙ ap (λ es. done ++ es) c.in-Some.ensures.steps in
    let seen : is_among (string_bytes e.0) (map bytes_now c.args.known.now) ≡ c.is_known.result =
    sym (is_among-now (string_bytes e.0) c.args.known.now) ∙ ap (λ k. list_any (λ name. bytes_eq name.now k) c.args.known.now) (sym c.as_str.ensures.value) ∙ sym c.is_known.ensures in
    (done ++ e ∷ [], all ∙ sym (append_assoc done (e ∷ []) left), only_known-last (map bytes_now c.args.known.now) done e l.invariant.2 (seen ∙ c.if-not-is_known.false))
