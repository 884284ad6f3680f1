use Rattle.std.proofs.Common.{◌<◌, length, arith}
use Rattle.std.proofs.lemmas.Bool.Decides.{nat_tests}
use Rattle.log4rs_encode.proofs.Tables.{date_of_more}
use Rattle.log4rs_encode.proofs.pattern.make.date.Goals as goal

pub returns-then-args-gt2 : goal.returns-then-args-gt2
returns-then-args-gt2 c =
    let more : 2 < length c.args.args.now = grind (arith, nat_tests) in
    rw (date_of_more c.args.args.now c.args.parameters more) c.error.ensures
