use Rattle.std.proofs.Common.{rules, FitsSigned, w64}
use Rattle.std.proofs.lemmas.Int.{to_z-of_z}
use Rattle.log4rs_rolling.proofs.TargetFacts.{reached_shown}
use Rattle.log4rs_base.specs.declared.dates.interval.TimeTriggerInterval.TheVariants.{Second, Minute, Hour, Day, Week, Month, Year}
use Rattle.log4rs_rolling.proofs.next_time.reached.Goals as goal

pub returns-in-Year : goal.returns-in-Year
returns-in-Year c =
    let fits : FitsSigned w64 c.in-Year.n = search rules in
    let number = simp to_z-of_z at c.unsigned_abs.ensures.value in
    rw c.in-Year.is (reached_shown (Year c.in-Year.n) c.args.config.now.modulate _ _ c.to_datetime-shown.result _ c.to_datetime-shown.ensures
    (rw (c.date.ensures, number) at c.next_year.ensures))

pub returns-in-Month : goal.returns-in-Month
returns-in-Month c =
    let fits : FitsSigned w64 c.in-Month.n = search rules in
    let number = simp to_z-of_z at c.unsigned_abs-in-Month.ensures.value in
    rw c.in-Month.is (reached_shown (Month c.in-Month.n) c.args.config.now.modulate _ _ c.to_datetime-shown.result _ c.to_datetime-shown.ensures
    (rw (c.date-in-Month.ensures, number) at c.next_month.ensures))

pub returns-in-Week : goal.returns-in-Week
returns-in-Week c =
    let fits : FitsSigned w64 c.in-Week.n = search rules in
    let number = simp to_z-of_z at c.unsigned_abs-in-Week.ensures.value in
    rw c.in-Week.is (reached_shown (Week c.in-Week.n) c.args.config.now.modulate _ _ c.to_datetime-shown.result _ c.to_datetime-shown.ensures
    (rw (c.date-in-Week.ensures, number) at c.next_week.ensures))

pub returns-in-Day : goal.returns-in-Day
returns-in-Day c =
    let fits : FitsSigned w64 c.in-Day.n = search rules in
    let number = simp to_z-of_z at c.unsigned_abs-in-Day.ensures.value in
    rw c.in-Day.is (reached_shown (Day c.in-Day.n) c.args.config.now.modulate _ _ c.to_datetime-shown.result _ c.to_datetime-shown.ensures
    (rw (c.date-in-Day.ensures, number) at c.next_day.ensures))

pub returns-in-Hour : goal.returns-in-Hour
returns-in-Hour c =
    let fits : FitsSigned w64 c.in-Hour.n = search rules in
    let number = simp to_z-of_z at c.unsigned_abs-in-Hour.ensures.value in
    rw c.in-Hour.is (reached_shown (Hour c.in-Hour.n) c.args.config.now.modulate _ _ c.to_datetime-shown.result _ c.to_datetime-shown.ensures
    (rw (c.time.ensures, number) at c.next_hour.ensures))

pub returns-in-Minute : goal.returns-in-Minute
returns-in-Minute c =
    let fits : FitsSigned w64 c.in-Minute.n = search rules in
    let number = simp to_z-of_z at c.unsigned_abs-in-Minute.ensures.value in
    rw c.in-Minute.is (reached_shown (Minute c.in-Minute.n) c.args.config.now.modulate _ _ c.to_datetime-shown.result _ c.to_datetime-shown.ensures
    (rw (c.time-in-Minute.ensures, number) at c.next_minute.ensures))

pub returns-in-Second : goal.returns-in-Second
returns-in-Second c =
    let fits : FitsSigned w64 c.in-Second.n = search rules in
    let number = simp to_z-of_z at c.unsigned_abs-in-Second.ensures.value in
    rw c.in-Second.is (reached_shown (Second c.in-Second.n) c.args.config.now.modulate _ _ c.to_datetime-shown.result _ c.to_datetime-shown.ensures
    (rw (c.time-in-Second.ensures, number) at c.next_second.ensures))
