use Rattle.log4rs_threads.proofs.Gaining.{texts_after}
use Rattle.log4rs_threads.proofs.schedule.installed.Installed.append.Goals as goal

pub returns-clause-texts : goal.returns-clause-texts
returns-clause-texts c =
    texts_after c.args.«record».now c.args.context.now c.args.at c.in_default.field-0 _ _ c.in_default.ensures.appends
