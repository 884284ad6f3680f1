use Rattle.std.proofs.Common.{◌≡◌, encode_utf8, arith}
use Rattle.std.proofs.lemmas.Bool.Decides.{nat_tests}
use Rattle.log4rs_encode.proofs.Cells.{padded_none}
use Rattle.log4rs_encode.proofs.pattern.fit.pad.Goals as goal

pub returns-then-missing-eq0 : goal.returns-then-missing-eq0
returns-then-missing-eq0 c =
    let none : c.args.missing ≡ 0 = grind (arith, nat_tests) in
    padded_none c.args.parameters.now.align c.args.kept c.args.missing (encode_utf8 c.args.parameters.now.fill) none c.runs-joined.ensures.joined
