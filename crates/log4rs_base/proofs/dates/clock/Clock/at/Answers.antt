use Rattle.std.proofs.Common.{sym}
use Rattle.log4rs_base.proofs.ClockFacts.{clock_at-civil_nanos}
use Rattle.log4rs_base.proofs.dates.clock.Clock.at.Goals as goal

pub returns : goal.returns
returns c =
    rw (← c.to_datetime-shown.ensures, c.date.ensures, c.time.ensures)
    (sym (clock_at-civil_nanos c.to_datetime-shown.result c.args.offset.seconds c.args.is_utc))
