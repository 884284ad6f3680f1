use Rattle.std.proofs.Common.{◌≡◌, ◌+◌, ◌≤◌, ◌^◌, length, arith, sym, ap, ◌∙◌, Some}
use Rattle.std.proofs.lemmas.Bool.Decides.{nat_tests}
use Rattle.log4rs_settings.proofs.Parts.{Told-over, Told-whole, Told-more, IsUtf8-behind_part}
use Rattle.log4rs_settings.proofs.Runs.{IsUtf8-after_leading}
use Rattle.log4rs_settings.specs.declared.units.Class.TheVariants.{Space}
use Rattle.log4rs_settings.proofs.units.parse_duration.Goals as goal

pub returns-in_err-total : goal.returns-in_err-total
returns-in_err-total c =
    let over : 2 ^ 64 ≤ c.loop-part.total + c.in_ok-part.part = omega (arith, c.in_err-total.ensures) in
    c.from_residual-in_err-total.ensures ∙ sym (Told-over _ _ _ _ c.loop-part.invariant.1 (sym c.in_ok-part.ensures.part) over)

pub returns-then-is_empty : goal.returns-then-is_empty
returns-then-is_empty c =
    let empty : length c.in_ok-part.behind.now ≡ 0 = grind (arith, nat_tests) in
    ap Some c.in_ok-total.ensures.1
    ∙ sym (Told-whole _ _ _ _ _ c.loop-part.invariant.1 (sym c.in_ok-part.ensures.part) c.in_ok-part.ensures.behind empty c.in_ok-total.ensures.0)

pub loop-part-preserved : goal.loop-part-preserved
loop-part-preserved c =
    let some : ¬ (length c.in_ok-part.behind.now ≡ 0) = grind (arith, nat_tests) in
    let behind = IsUtf8-behind_part c.loop-part.rest.now c.loop-part.invariant.0 in
    let more = Told-more _ _ _ _ _ c.loop-part.invariant.1 (sym c.in_ok-part.ensures.part) c.in_ok-part.ensures.behind some c.in_ok-part.ensures.shorter in
    rw (c.split_leading.ensures.rest, c.in_ok-total.ensures.1) (IsUtf8-after_leading Space _ (rw (← c.in_ok-part.ensures.behind) at behind), more)
