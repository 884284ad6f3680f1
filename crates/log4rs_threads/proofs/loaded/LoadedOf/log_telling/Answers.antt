use Rattle.std.proofs.Common.{◌∙◌, []}
use Rattle.log4rs_config.specs.Answer.{faults}
use Rattle.log4rs_threads.proofs.Told.{told_by_notes}
use Rattle.log4rs_threads.proofs.loaded.LoadedOf.log_telling.Goals as goal

pub returns-clause-delivered : goal.returns-clause-delivered
returns-clause-delivered g c = λ earlier heard.
    let noted = c.log_noting-noted.ensures.delivered [] c.new-errors.ensures.items in
    rw c.tell_noted.ensures.same (told_by_notes faults _ _ (g.T.TellFault.told c.tell_noted.new.teller) earlier _ _ noted (λ failed are. c.tell_noted.ensures.told failed (c.as_slice.ensures ∙ are) earlier heard))
