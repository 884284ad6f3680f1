use Rattle.std.proofs.Common.{pos, ◌≡◌, ◌∙◌, arith, FitsSigned, w16, ◌<ℤ◌}
use Rattle.std.specs.Int.{w128}
use Rattle.std.proofs.lemmas.Int.{to_z-of_z, ints}
use Rattle.jiff_core.proofs.SignedLemmas.{signed_arith}
use Rattle.jiff_core.specs.Date.{IsYmd}
use Rattle.log4rs_rolling.proofs.DayFacts.{late_day, ymd_day, ymd_in_range}
use Rattle.log4rs_rolling.proofs.next_time.month_start.Goals as goal

pub returns-then-year-gt9999 : goal.returns-then-year-gt9999
returns-then-year-gt9999 c =
    let fits : FitsSigned w128 c.args.year = c.ranges.year in
    let late : pos 9999 <ℤ c.args.year = omega (arith, signed_arith) in
    late_day c.args.year c.args.month 1 late (omega arith)

pub returns-else-year-gt9999 : goal.returns-else-year-gt9999
returns-else-year-gt9999 c =
    let fits : FitsSigned w128 c.args.year = c.ranges.year in
    let short : FitsSigned w16 c.args.year = omega (arith, signed_arith) in
    let parts = simp to_z-of_z at c.date.ensures in
    let month : pos c.date.result.month ≡ pos c.args.month = parts.1 ∙ omega (arith, ints) in
    let ymd : IsYmd c.args.year (pos c.args.month) (pos 1) c.date.result = (parts.0, month, parts.2) in
    (ymd_in_range c.date.result c.args.year c.args.month 1 ymd, ymd_day c.date.result c.args.year c.args.month 1 ymd)
