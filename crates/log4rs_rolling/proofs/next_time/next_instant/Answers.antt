use Rattle.std.proofs.Common.{FitsSigned, w64, ◌+ℤ◌, ◌-ℤ◌, arith}
use Rattle.std.specs.Int.{w128}
use Rattle.jiff_core.proofs.SignedLemmas.{signed_arith}
use Rattle.log4rs_rolling.proofs.DayFacts.{instant_of_same}
use Rattle.log4rs_rolling.proofs.next_time.next_instant.Goals as goal

pub returns : goal.returns
returns c =
    let below : FitsSigned w64 c.args.below = c.ranges.below in
    let ahead : FitsSigned w128 c.args.ahead = c.ranges.ahead in
    instant_of_same _ (c.args.moment.nanosecond -ℤ c.args.below +ℤ c.args.ahead) _ c.instant_at.ensures
    (omega (arith, signed_arith, c.as_nanosecond.ensures, c.from.ensures, c.args.moment.in_range))
