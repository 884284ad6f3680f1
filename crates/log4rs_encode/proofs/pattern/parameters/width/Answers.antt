use Rattle.std.proofs.Common.{◌<◌, length, refl, Ok, Err, arith}
use Rattle.std.proofs.lemmas.Bool.Decides.{nat_tests}
use Rattle.std.specs.Str.{chars}
use Rattle.std.specs.declared.num.ParseIntError.{ParseIntError}
use Rattle.log4rs_encode.proofs.Digits.{Reads-parse, none-run}
use Rattle.log4rs_encode.proofs.pattern.parameters.width.Goals as goal

pub returns-then-is_empty-clause-value : goal.returns-then-is_empty-clause-value
returns-then-is_empty-clause-value c = (none-run (chars c.args.text.now) c.split_leading.result.0.now c.split_leading.ensures.front (grind (arith, nat_tests)), refl)

pub returns-in-Ok-clause-value : goal.returns-in-Ok-clause-value
returns-in-Ok-clause-value c =
    let some : 0 < length c.split_leading.result.0.now = grind (arith, nat_tests) in
    Reads-parse {E = ParseIntError} (chars c.args.text.now) c.split_leading.result.0.now (Ok c.in-Ok.n) c.in-Ok.ensures.value.0 c.split_leading.ensures.front some

pub returns-in-Err-clause-value : goal.returns-in-Err-clause-value
returns-in-Err-clause-value c =
    let some : 0 < length c.split_leading.result.0.now = grind (arith, nat_tests) in
    Reads-parse {E = ParseIntError} (chars c.args.text.now) c.split_leading.result.0.now (Err c.in-Err.field-0) c.in-Err.ensures.value.0 c.split_leading.ensures.front some
