use Rattle.std.proofs.Common.{◌≡◌, ◌∙◌, ◌-◌, ◌+ℤ◌, pos, ap}
use Rattle.jiff_core.specs.Date.{epoch_day, ordinal}
use Rattle.log4rs_rolling.specs.NextTime.{increment}
use Rattle.log4rs_rolling.proofs.DayFacts.{day_at}
use Rattle.log4rs_rolling.proofs.next_time.next_day.Goals as goal

pub returns : goal.returns
returns c =
    let place = c.from-day.ensures ∙ (c.day_of_year.ensures.value ∙ ap ordinal c.to_plain.ensures) in
    let units : c.from.result ≡ increment c.args.modulate c.args.number (ordinal c.args.date - 1) =
    c.from.ensures ∙ (c.increment-days.ensures.value ∙ ap (λ n. increment c.args.modulate c.args.number (n - 1)) place) in
    c.day_start.ensures _ (day_at _ _ _ c.days_on.ensures (ap (λ n. epoch_day c.args.date +ℤ pos n) units))
