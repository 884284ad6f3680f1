use Rattle.std.proofs.Common.{◌≡◌, ◌∙◌, ◌-◌, ◌/◌, ◌+ℤ◌, ◌-ℤ◌, ℤ, pos, ap, sym, arith}
use Rattle.jiff_core.specs.Date.{epoch_day, weekday_of}
use Rattle.jiff_core.proofs.SignedLemmas.{signed_arith}
use Rattle.jiff_core.proofs.CalendarLemmas.{weekday_number_bound}
use Rattle.jiff_core.proofs.DateLemmas.{civil, epoch_day_range}
use Rattle.log4rs_base.proofs.ClockFacts.{calendar_day-days_from_civil}
use Rattle.log4rs_base.specs.Clock.{calendar_day, CalendarDay}
use Rattle.log4rs_rolling.proofs.DayFacts.{thursday_in_range, in_range_at}
use Rattle.log4rs_rolling.proofs.next_time.iso_week.Goals as goal

pub unreachable-requires : goal.unreachable-requires
unreachable-requires c =
    let there = thursday_in_range (epoch_day c.args.date) (epoch_day_range c.args.date) in
    let small = weekday_number_bound (epoch_day c.args.date) in
    let same = ap epoch_day c.to_plain.ensures in
    let wrong = c.in-Err.ensures.succeeds.1 (in_range_at _ _ there (omega (arith, signed_arith, same, small, c.from.ensures, c.requires))) in
    cc

pub returns : goal.returns
returns c =
    let small = weekday_number_bound (epoch_day c.args.date) in
    let same = ap epoch_day c.to_plain.ensures in
    let day : epoch_day c.in-Ok.thursday ≡ epoch_day c.args.date -ℤ pos (weekday_of c.args.date) +ℤ pos 3 =
    omega (arith, signed_arith, same, small, c.from.ensures, c.requires, c.in-Ok.ensures.value) in
    let place = ap (λ (d : CalendarDay). d.day_of_year) (calendar_day-days_from_civil c.in-Ok.thursday.year c.in-Ok.thursday.month c.in-Ok.thursday.day (civil c.in-Ok.thursday)) in
    ap (λ n. (n - 1) / 7) ((c.from-in-Ok.ensures ∙ c.day_of_year.ensures.value) ∙ (sym place ∙ ap (λ (n : ℤ). (calendar_day n).day_of_year) day))
