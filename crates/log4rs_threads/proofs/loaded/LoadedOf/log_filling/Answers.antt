use Rattle.std.proofs.Common.{◌∙◌, [], ap}
use Rattle.log4rs_config.specs.Answer.{faults}
use Rattle.log4rs_threads.proofs.Told.{told_by_notes, told_nothing}
use Rattle.log4rs_threads.proofs.loaded.LoadedOf.log_filling.Goals as goal

pub returns-clause-kept_out : goal.returns-clause-kept_out
returns-clause-kept_out g c = λ out.
    let kept = c.log_filled-noted.ensures.kept_out out in
    let none = c.as_slice.ensures ∙ (ap (λ notes. notes.items) kept.3 ∙ c.forget.ensures) in
    (rw c.tell_noted.ensures.same kept.0, kept.1, kept.2, λ told heard. told_nothing (g.T.TellFault.told c.tell_noted.new.teller) told _ _ kept.0 (c.tell_noted.ensures.told [] none told heard))

pub returns-clause-filled : goal.returns-clause-filled
returns-clause-filled g c = λ lets. rw c.tell_noted.ensures.same (c.log_filled-noted.ensures.filled lets)

pub returns-clause-delivered : goal.returns-clause-delivered
returns-clause-delivered g c = λ lets earlier heard.
    let noted = c.log_filled-noted.ensures.delivered lets [] c.forget.ensures in
    rw c.tell_noted.ensures.same (told_by_notes faults _ _ (g.T.TellFault.told c.tell_noted.new.teller) earlier _ _ noted (λ failed are. c.tell_noted.ensures.told failed (c.as_slice.ensures ∙ are) earlier heard))
