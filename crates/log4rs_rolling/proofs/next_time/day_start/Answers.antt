use Rattle.std.proofs.Common.{◌∙◌, ap}
use Rattle.jiff_core.specs.Date.{epoch_day}
use Rattle.log4rs_rolling.proofs.DayFacts.{reached_none, midnight_is}
use Rattle.log4rs_rolling.proofs.next_time.day_start.Goals as goal

pub returns-in_default : goal.returns-in_default
returns-in_default c = λ day is. reached_none _ day (rw c.in_default.is at is)

pub returns-in-Ok : goal.returns-in-Ok
returns-in-Ok c = λ day is. record {
  shown = c.from-start.result;
  on_day = ap epoch_day c.from-start.ensures.0 ∙ (rw c.in-Some.is at is).1;
  at_start = c.from-start.ensures.1;
  later = rw (← c.to_ambiguous_timestamp.ensures.offsets, ← c.to_ambiguous_timestamp.ensures.datetime) c.in-Ok.ensures.value;
  in_range = c.in-Ok.timestamp.in_range;
}

pub returns-in-Err : goal.returns-in-Err
returns-in-Err c = λ day is n at.
    let in_range = midnight_is _ day n c.from-start.result (ap epoch_day c.from-start.ensures.0 ∙ (rw c.in-Some.is at is).1) c.from-start.ensures.1 at in
    let wrong = c.in-Err.ensures.succeeds.1 (rw (c.to_ambiguous_timestamp.ensures.offsets, c.to_ambiguous_timestamp.ensures.datetime) in_range) in
    cc
