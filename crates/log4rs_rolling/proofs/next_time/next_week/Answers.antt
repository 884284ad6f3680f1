use Rattle.std.proofs.Common.{◌≡◌, ◌∙◌, ◌<◌, ℕ, ap, arith}
use Rattle.jiff_core.specs.Date.{epoch_day, weekday_of}
use Rattle.jiff_core.proofs.CalendarLemmas.{weekday_number_bound}
use Rattle.log4rs_rolling.specs.NextTime.{increment, iso_week}
use Rattle.log4rs_rolling.proofs.DayFacts.{day_at, weeks_ahead}
use Rattle.log4rs_rolling.proofs.next_time.next_week.Goals as goal

pub returns : goal.returns
returns c =
    let day = epoch_day c.args.date in
    let n : ℕ = increment c.args.modulate c.args.number (iso_week (epoch_day c.args.date) (weekday_of c.args.date)) in
    let weekday : c.from-2.result ≡ weekday_of c.args.date =
    c.from-2.ensures ∙ (c.index-weekday.ensures.value ∙ (c.weekday.ensures ∙ ap weekday_of c.to_plain.ensures)) in
    let weeks : c.from.result ≡ n = c.from.ensures ∙ (c.increment-weeks.ensures.value ∙ ap (increment c.args.modulate c.args.number) c.iso_week.ensures) in
    let some : 0 < n = omega (arith, weeks, c.from.ensures, c.increment-weeks.ensures.above) in
    c.day_start.ensures _ (day_at _ _ _ c.days_on.ensures
    (rw (weeks, weekday) (weeks_ahead (epoch_day c.args.date) (weekday_of c.args.date) n (weekday_number_bound (epoch_day c.args.date)) some)))
