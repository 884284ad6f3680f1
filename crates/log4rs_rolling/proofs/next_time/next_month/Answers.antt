use Rattle.std.proofs.Common.{◌≡◌, ◌∙◌, ◌-◌, ap, arith, rules, FitsSigned, w16}
use Rattle.std.proofs.lemmas.Int.{to_z-of_z}
use Rattle.jiff_core.specs.declared.civil.date.Date.{Date}
use Rattle.jiff_core.specs.Calendar.{IsYear}
use Rattle.jiff_core.proofs.SignedLemmas.{signed_arith}
use Rattle.log4rs_rolling.specs.NextTime.{increment}
use Rattle.log4rs_rolling.proofs.DayFacts.{day_at, same_start}
use Rattle.log4rs_rolling.proofs.next_time.next_month.Goals as goal

pub returns : goal.returns
returns c =
    let month : c.from-month.result ≡ c.args.date.month = c.from-month.ensures ∙ ap (λ (d : Date). d.month) c.to_plain.ensures in
    let in_years : IsYear c.args.date.year = c.args.date.year_in in
    let short : FitsSigned w16 c.year.result = search rules in
    let year : c.from-3.result ≡ c.args.date.year = (simp to_z-of_z at c.from-3.ensures) ∙ c.year.ensures in
    let units = c.increment.ensures.value ∙ ap (λ n. increment c.args.modulate c.args.number (n - 1)) month in
    c.day_start.ensures _ (day_at _ _ _ c.month_start.ensures (same_start _ _ _ _
    (omega (arith, signed_arith, units, month, c.from.ensures, c.from-2.ensures, c.from-4.ensures, year, in_years, c.increment.type_inv))
    (omega (arith, units, month, c.from.ensures, c.from-2.ensures))))
