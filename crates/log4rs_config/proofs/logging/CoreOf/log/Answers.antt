use Rattle.std.proofs.Common.{◌≡◌, ◌<◌, ◌∙◌, [], length, sym, ap, arith}
use Rattle.std.proofs.lemmas.Bool.Decides.{nat_tests}
use Rattle.std.proofs.lemmas.List.{nil_from_length}
use Rattle.log4rs_config.specs.Builder.{config_admits, config_settings}
use Rattle.log4rs_config.proofs.Delivering.{delivered, nothing_told}
use Rattle.log4rs_config.proofs.logging.CoreOf.log.Goals as goal

pub deliver-requires : goal.deliver-requires
deliver-requires g c = rw c.args.self.now.config.named c.route-limit.ensures.within

pub returns-then-is_empty-clause-answer : goal.returns-then-is_empty-clause-answer
returns-then-is_empty-clause-answer g c =
    let config = c.args.self.now.config in
    let came = c.in_default.ensures.delivered in
    let notes = c.deliver.new.notes in
    let none : length notes.items ≡ 0 = grind (arith, nat_tests, c.is_empty.ensures, c.if-is_empty.true, notes.ok) in
    delivered g.A.Append.sink g.F.Filter.answer c.args.«record».now c.args.context.now (config_settings config) _ _ came.0 [] config.appenders c.deliver.new.to
    (rw c.deref.ensures at c.route-limit.ensures.level) (rw c.deref.ensures at c.route-limit.ensures.places) (sym (nil_from_length notes.items none) ∙ came.2 [] c.clear.ensures.items) came.1

pub returns-clause-answer : goal.returns-clause-answer
returns-clause-answer g c =
    let config = c.args.self.now.config in
    let came = c.in_default.ensures.delivered in
    let notes = c.deliver.new.notes in
    let some : 0 < length notes.items = grind (arith, nat_tests, c.is_empty.ensures, c.if-is_empty.false, notes.ok) in
    let given : c.replace-errors.result.items ≡ notes.items = ap (λ v. v.items) c.replace-errors.ensures.value in (
      λ none. let same : length notes.items ≡ 0 = ap length (sym given ∙ none) in omega (arith, some, same),
      delivered g.A.Append.sink g.F.Filter.answer c.args.«record».now c.args.context.now (config_settings config) _ _ came.0 c.replace-errors.result.items config.appenders c.deliver.new.to
          (rw c.deref.ensures at c.route-limit.ensures.level) (rw c.deref.ensures at c.route-limit.ensures.places) (given ∙ came.2 [] c.clear.ensures.items) came.1,
    )

pub returns-clause-kept_out : goal.returns-clause-kept_out
returns-clause-kept_out g c below =
    let config = c.args.self.now.config in
    let came = c.in_default.ensures.delivered in
    let notes = c.deliver.new.notes in
    let some : 0 < length notes.items = grind (arith, nat_tests, c.is_empty.ensures, c.if-is_empty.false, notes.ok) in
    let limit = c.route-limit.result.0 in
    let is = rw c.deref.ensures at c.route-limit.ensures.level in
    let nothing = nothing_told came.0 limit c.route-limit.result.1.now (config_admits g.F.Filter.answer config c.args.«record».now) c.args.«record».now.level (rw is below) came.1.at_places in
    let none : length notes.items ≡ 0 = ap length (came.2 [] c.clear.ensures.items ∙ nothing) in
    absurd (omega (arith, some, none))
