use Rattle.std.proofs.Common.{◌++◌, List, ℕ, string_bytes, sym, ap, ◌∙◌}
use Rattle.std.proofs.lemmas.Result.{on_ok_weaker}
use Rattle.log4rs_base.specs.Standard.{two_digits}
use Rattle.log4rs_base.proofs.Digits.{time_of}
use Rattle.log4rs_base.proofs.dates.directive.push_time.Goals as goal

pub returns : goal.returns
returns c =
    let clock = c.args.clock.now in
    let t = c.time_parts.result in
    on_ok_weaker c.push_ascii.result (λ e.
    e ∙ ap (λ (w : List ℕ). string_bytes c.args.out.now ++ w) (sym (time_of (two_digits clock.hour) (two_digits clock.minute) (two_digits clock.second)
    t.0.0 t.0.1 t.1.0 t.1.1 t.2.0 t.2.1 c.time_parts.ensures.hour c.time_parts.ensures.minute c.time_parts.ensures.second))) c.push_ascii.ensures
