use Rattle.std.proofs.Common.{◌++◌, ◌/◌, List, ℕ, refl, string_bytes, sym, ap, ◌∙◌}
use Rattle.std.proofs.lemmas.Result.{on_ok_weaker}
use Rattle.log4rs_base.proofs.Digits.{nine_of}
use Rattle.log4rs_base.proofs.dates.directive.push_nanoseconds.Goals as goal

pub returns : goal.returns
returns c =
    let n = c.args.number in
    on_ok_weaker c.push_ascii.result (λ e.
    e ∙ ap (λ (w : List ℕ). string_bytes c.args.out.now ++ w) (sym (nine_of n (n / 100) (n / 100 / 100) (n / 100 / 100 / 100) (n / 100 / 100 / 100 / 100)
    c.digits-second.result.0 c.digits-second.result.1 c.digits-third.result.0 c.digits-third.result.1
    c.digits-fourth.result.0 c.digits-fourth.result.1 c.digits-last.result.0 c.digits-last.result.1
    c.requires refl refl refl refl c.digits-second.ensures.text c.digits-third.ensures.text c.digits-fourth.ensures.text c.digits-last.ensures.text))) c.push_ascii.ensures
