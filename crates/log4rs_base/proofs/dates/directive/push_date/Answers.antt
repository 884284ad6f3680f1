use Rattle.std.proofs.Common.{◌++◌, List, ℕ, string_bytes, sym, ap, ◌∙◌}
use Rattle.std.proofs.lemmas.Result.{on_ok_weaker}
use Rattle.log4rs_base.specs.Standard.{two_digits, year_text}
use Rattle.log4rs_base.proofs.Digits.{date_of}
use Rattle.log4rs_base.proofs.dates.directive.push_date.Goals as goal

pub returns : goal.returns
returns c =
    let clock = c.args.clock.now in
    let d = c.date_parts.result in
    on_ok_weaker c.push_ascii.result (λ e.
    e ∙ ap (λ (w : List ℕ). string_bytes c.args.out.now ++ w) (sym (date_of (year_text clock) (two_digits clock.month) (two_digits clock.day)
    d.0.0 d.0.1 d.1.0 d.1.1 d.2.0 d.2.1 d.3.0 d.3.1 c.date_parts.ensures.year c.date_parts.ensures.month c.date_parts.ensures.day))) c.push_ascii.ensures
