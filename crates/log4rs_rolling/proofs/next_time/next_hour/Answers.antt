use Rattle.std.proofs.Common.{◌∙◌, ap, arith}
use Rattle.jiff_core.proofs.SignedLemmas.{signed_arith}
use Rattle.jiff_core.specs.declared.civil.time.Time.{Time}
use Rattle.log4rs_rolling.specs.NextTime.{increment}
use Rattle.log4rs_rolling.proofs.DayFacts.{instant_of_same}
use Rattle.log4rs_rolling.proofs.next_time.next_hour.Goals as goal

pub returns : goal.returns
returns c =
    let time = c.to_plain-time.ensures in
    let hour = ap (λ (t : Time). t.hour) time in
    let minute = ap (λ (t : Time). t.minute) time in
    let second = ap (λ (t : Time). t.second) time in
    let part = ap (λ (t : Time). t.subsec_nanosecond) time in
    let units = c.increment-hours.ensures.value ∙ ap (increment c.args.modulate c.args.number) (c.from-4.ensures ∙ hour) in
    instant_of_same _ _ _ c.next_instant.ensures
    (omega (arith, signed_arith, units, minute, second, part, c.from.ensures, c.from-2.ensures, c.from-3.ensures, c.from-5.ensures, c.increment-hours.type_inv))
