use Rattle.std.proofs.Common.{None, refl}
use Rattle.log4rs_rolling.proofs.Maps.{files_in_changed}
use Rattle.log4rs_rolling.proofs.store.replay.take_out.Goals as goal

pub returns-in-Some-clause-files : goal.returns-in-Some-clause-files
returns-in-Some-clause-files c = files_in_changed c.args.path.now c.args.path.now c.args.files.now c.remove.new.self None None refl refl c.remove.ensures.updates

pub returns-in-None-clause-files : goal.returns-in-None-clause-files
returns-in-None-clause-files c = files_in_changed c.args.path.now c.args.path.now c.args.files.now c.remove.new.self None None refl refl c.remove.ensures.updates
