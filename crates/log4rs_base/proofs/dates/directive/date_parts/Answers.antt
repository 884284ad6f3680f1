use Rattle.std.proofs.Common.{◌≡◌, ◌<◌, ◌++◌, List, ℕ, unsigned_abs, sym, ap, ap₂, ◌∙◌, subst}
use Rattle.log4rs_base.specs.Standard.{zero_filled}
use Rattle.log4rs_base.proofs.Digits.{four}
use Rattle.log4rs_base.proofs.dates.directive.date_parts.Goals as goal

pub returns-clause-year : goal.returns-clause-year
returns-clause-year c =
    let same : c.unsigned_year-year.result ≡ unsigned_abs c.args.clock.now.year = c.unsigned_year-year.ensures in
    let small : c.unsigned_year-year.result < 10_000 = subst (λ (n : ℕ). n < 10_000) (sym same) c.bounds.ensures.year in
    sym (ap (zero_filled 4) same) ∙ four c.unsigned_year-year.result small ∙ ap₂ (λ (v w : List ℕ). v ++ w) c.digits-century.ensures.text c.digits-year.ensures.text
