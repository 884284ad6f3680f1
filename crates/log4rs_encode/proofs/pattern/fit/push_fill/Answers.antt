use Rattle.std.proofs.Common.{◌≡◌, encode_utf8, arith}
use Rattle.std.proofs.lemmas.Bool.Decides.{nat_tests}
use Rattle.log4rs_encode.specs.declared.pattern.piece.Alignment.TheVariants.{Left}
use Rattle.log4rs_encode.proofs.Cells.{padded_none}
use Rattle.log4rs_encode.proofs.pattern.fit.push_fill.Goals as goal

pub returns-then-times-eq0 : goal.returns-then-times-eq0
returns-then-times-eq0 c =
    let none : c.args.times ≡ 0 = grind (arith, nat_tests) in
    padded_none Left c.args.out.now c.args.times (encode_utf8 c.args.fill) none c.runs-joined.ensures.joined
