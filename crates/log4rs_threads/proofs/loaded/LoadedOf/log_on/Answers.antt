use Rattle.std.proofs.Common.{◌≡◌, ◌<◌, arith, [], length, sym, ◌∙◌, ap}
use Rattle.std.proofs.lemmas.Bool.Decides.{nat_tests}
use Rattle.std.proofs.lemmas.List.{nil_from_length}
use Rattle.log4rs_threads.proofs.loaded.LoadedOf.log_on.Goals as goal

pub returns-in-Err-clause-steps : goal.returns-in-Err-clause-steps
returns-in-Err-clause-steps g c = (c.in-Err.ensures.delivered [] c.new-errors.ensures.items).0

pub returns-then-is_empty-clause-steps : goal.returns-then-is_empty-clause-steps
returns-then-is_empty-clause-steps g c =
    let made = c.in_default.ensures.delivered [] c.new-errors.ensures.items in
    let none : length c.log_noting.new.notes.items ≡ 0 = grind (arith, nat_tests, c.is_empty.ensures, c.if-is_empty.true, c.log_noting.new.notes.ok) in
    (made.0, made.1, sym made.2 ∙ nil_from_length c.log_noting.new.notes.items none)

pub returns-clause-steps : goal.returns-clause-steps
returns-clause-steps g c =
    let made = c.in_default.ensures.delivered [] c.new-errors.ensures.items in
    let some : 0 < length c.log_noting.new.notes.items = grind (arith, nat_tests, c.is_empty.ensures, c.if-is_empty.false, c.log_noting.new.notes.ok) in
    (made.0, made.1, made.2, λ none. let same : length c.log_noting.new.notes.items ≡ 0 = ap length none in omega (arith, some, same))
