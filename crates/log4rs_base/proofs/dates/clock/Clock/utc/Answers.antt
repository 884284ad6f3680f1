use Rattle.std.proofs.Common.{◌≡◌, ℤ, pos, ◌+ℤ◌, ◌*ℤ◌, arith}
use Rattle.jiff_core.proofs.SignedLemmas.{signed_arith}
use Rattle.log4rs_base.proofs.dates.clock.Clock.utc.Goals as goal

at_zero : (n : ℤ) → n +ℤ pos 0 *ℤ pos 1_000_000_000 ≡ n
at_zero n = omega (arith, signed_arith)

pub returns : goal.returns
returns c = rw (← at_zero c.args.moment.nanosecond) c.at.ensures
