use Rattle.std.proofs.Common.{◌≡◌, ◌<◌, length, arith}
use Rattle.std.proofs.lemmas.Bool.Decides.{nat_tests}
use Rattle.log4rs_encode.proofs.Tables.{mdc_of_more, mdc_of_two}
use Rattle.log4rs_encode.proofs.pattern.make.mdc.Goals as goal

pub returns-then-args-gt2 : goal.returns-then-args-gt2
returns-then-args-gt2 c =
    let more : 2 < length c.args.args.now = grind (arith, nat_tests) in
    rw (mdc_of_more c.args.args.now c.args.parameters more) c.mdc_error-then-args-gt2.ensures

pub returns : goal.returns
returns c =
    let two : length c.args.args.now ≡ 2 = grind (arith, nat_tests) in
    rw (
      mdc_of_two c.args.args.now c.index-args-0.result c.index-args-1.result c.args.parameters two c.index-args-0.is c.index-args-1.is,
      ← c.as_slice.ensures.value,
      ← c.as_slice-2.ensures.value,
      ← c.word-key.ensures,
      ← c.word.ensures,
    ) c.mdc_value-2.ensures
