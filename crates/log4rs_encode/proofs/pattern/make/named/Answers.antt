use Rattle.std.proofs.Common.{◌≡◌, Some, ◌<◌, length, sym, ◌∙◌, arith}
use Rattle.std.proofs.lemmas.Bool.Decides.{nat_tests}
use Rattle.log4rs_encode.specs.Table.{field_named}
use Rattle.log4rs_encode.proofs.Tables.{field_with_lists, field_alone, exactly}
use Rattle.log4rs_encode.proofs.pattern.make.named.Goals as goal

pub returns-then-not-is_empty : goal.returns-then-not-is_empty
returns-then-not-is_empty c =
    let some : 0 < length c.args.args.now = grind (arith, nat_tests) in
    let found : field_named c.args.name.now ≡ Some c.in-Some.field = sym c.field_named.ensures ∙ c.in-Some.is in
    rw (field_with_lists c.in-Some.field (field_named c.args.name.now) c.args.name.now c.args.args.now c.args.parameters found some) (exactly _ _ c.in_ok-error.ensures)

pub returns : goal.returns
returns c =
    let none : length c.args.args.now ≡ 0 = grind (arith, nat_tests) in
    let found : field_named c.args.name.now ≡ Some c.in-Some.field = sym c.field_named.ensures ∙ c.in-Some.is in
    rw (field_alone c.in-Some.field (field_named c.args.name.now) c.args.name.now c.args.args.now c.args.parameters found none) c.in_ok-field_chunk.ensures
