use Rattle.std.proofs.Common.{◌++◌, ◌∷◌, [], List, ℕ, Some, map, sym, ap, ◌∙◌, arith, rules}
use Rattle.std.proofs.lemmas.Str.Pattern.{split_parts}
use Rattle.log4rs_base.specs.DateFormat.{Item, literal, of_directive, format_items}
use Rattle.log4rs_base.specs.PartView.{parts_items}
use Rattle.log4rs_base.proofs.FormatFacts.{after, turn, bad_turn, last_turn, parts_turned, parts_ended}
use Rattle.log4rs_base.proofs.dates.format.DateFormat.parse.Goals as goal

pub returns-in_default-named_directive : goal.returns-in_default-named_directive
returns-in_default-named_directive c =
    let parts = split_parts 37 c.loop-literal.rest.now c.split_once.result c.split_once.ensures.cases (omega arith) in
    let here = rw c.in-Some.is at parts in
    let named = rw c.in_default-named_directive.is at (sym c.named_directive.ensures.found) in
    sym (bad_turn c.args.format.now _ _ _ _ c.loop-literal.invariant.1 here.0 here.1 named)

pub loop-literal-preserved : goal.loop-literal-preserved
loop-literal-preserved c =
    let parts = split_parts 37 c.loop-literal.rest.now c.split_once.result c.split_once.ensures.cases (omega arith) in
    let here = rw c.in-Some.is at parts in
    let named = rw c.in-Some-named_directive.is at (sym c.named_directive.ensures.found) in
    let d = c.in-Some-named_directive.directive in
    let old = c.loop-literal.parts.items in
    let behind = c.in-Some-named_directive.behind.now in (
      search rules,
      turn c.args.format.now _ _ _ _ _ c.loop-literal.invariant.1 here.0 here.1 named
          ∙ ap (λ (t : List ℕ). after (parts_items old ++ map literal c.in-Some.literal.now ++ of_directive d ∷ []) (format_items t)) (sym c.in-Some-named_directive.ensures.behind.end)
          ∙ ap (λ (items : List Item). after items (format_items behind)) (sym (parts_turned old c.push.new.self.items c.push-in-Some.new.self.items c.in_ok-from_str.field-0
          c.in-Some.literal.now d c.in_ok-from_str.ensures.ok c.in_ok-push.ensures.items c.in_ok-push-2.ensures.items)),
    )

pub returns : goal.returns
returns c =
    let parts = split_parts 37 c.loop-literal.rest.now c.split_once.result c.split_once.ensures.cases (omega arith) in
    let here = rw c.in_default.is at parts in
    sym (last_turn c.args.format.now _ _ c.loop-literal.invariant.1 here
    ∙ ap Some (sym (parts_ended c.loop-literal.parts.items c.push-2.new.self.items c.in_ok-from_str-2.field-0 c.loop-literal.rest.now
    c.in_ok-from_str-2.ensures.ok c.in_ok-push-3.ensures.items)))
