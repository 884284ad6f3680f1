use Rattle.std.proofs.Common.{pos, arith, FitsSigned, w64}
use Rattle.jiff_core.proofs.SignedLemmas.{signed_arith}
use Rattle.jiff_core.proofs.DateLemmas.{epoch_day_range}
use Rattle.log4rs_rolling.proofs.next_time.days_on.Goals as goal

pub returns-in_default : goal.returns-in_default
returns-in_default c = λ in_range.
    let range = epoch_day_range c.args.date in
    let small : FitsSigned w64 (pos c.args.days) = omega (arith, signed_arith, range, in_range) in
    c.in_default.ensures small
