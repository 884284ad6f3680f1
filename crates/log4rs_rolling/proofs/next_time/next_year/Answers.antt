use Rattle.std.proofs.Common.{◌≡◌, ◌∙◌, pos, ap, arith, rules, FitsSigned, w16}
use Rattle.std.specs.Int.{w128}
use Rattle.std.proofs.lemmas.Int.{to_z-of_z}
use Rattle.jiff_core.specs.Calendar.{days_from_civil, IsYear}
use Rattle.jiff_core.proofs.SignedLemmas.{signed_arith}
use Rattle.log4rs_rolling.specs.NextTime.{increment, year_rest}
use Rattle.log4rs_rolling.proofs.DayFacts.{day_at}
use Rattle.log4rs_rolling.proofs.next_time.next_year.Goals as goal

pub returns : goal.returns
returns c =
    let in_years : IsYear c.args.date.year = c.args.date.year_in in
    let short : FitsSigned w16 c.year.result = search rules in
    let wide : FitsSigned w128 c.from-year.result = search rules in
    let whole : FitsSigned w128 c.from.result = search rules in
    let left : FitsSigned w128 c.rem_euclid-rest.result = search rules in
    let year : c.from-year.result ≡ c.args.date.year = (simp to_z-of_z at c.from-year.ensures) ∙ c.year.ensures in
    let rest = rw (year, c.from.ensures) at (simp to_z-of_z at c.rem_euclid-rest.ensures.value) in
    let units = rw rest at (simp to_z-of_z at c.increment-years.ensures.value) in
    let ahead : c.from-2.result ≡ pos (increment c.args.modulate c.args.number (year_rest c.args.date.year c.args.number)) = c.from-2.ensures ∙ ap pos units in
    c.day_start.ensures _ (day_at _ _ _ c.month_start.ensures (ap (λ y. days_from_civil y 1 1)
    (omega (arith, signed_arith, year, ahead, in_years, c.ranges.number))))
