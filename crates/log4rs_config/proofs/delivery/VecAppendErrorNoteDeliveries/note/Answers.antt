use Rattle.log4rs_config.proofs.Deliveries.{fault_noted, success_noted}
use Rattle.log4rs_config.proofs.delivery.VecAppendErrorNoteDeliveries.note.Goals as goal

pub returns-in-Err-clause-noted : goal.returns-in-Err-clause-noted
returns-in-Err-clause-noted c = λ before e.
    fault_noted before c.args.at c.args.answer c.in-Err.fault c.args.self.now.items c.push_reserved.new.self.items c.in-Err.is e c.push_reserved.ensures.items

pub returns-in_default-clause-noted : goal.returns-in_default-clause-noted
returns-in_default-clause-noted c = λ before e. success_noted before c.args.at c.args.answer c.in_default.field-0 c.args.self.now.items c.in_default.is e
