use Rattle.std.proofs.Common.{Some, None, string_bytes}
use Rattle.log4rs_rolling.proofs.Maps.{files_in_changed}
use Rattle.log4rs_rolling.proofs.store.replay.set.Goals as goal

pub returns-in_ok-insert-in-Some : goal.returns-in_ok-insert-in-Some
returns-in_ok-insert-in-Some c = files_in_changed (string_bytes c.in_ok-clone-in-Some.field-0) (string_bytes c.args.path.now) c.args.files.now c.insert.new.self (Some c.in-Some.bytes) c.args.bytes c.in_ok-clone-in-Some.ensures.cases c.in-Some.is c.in_ok-insert-in-Some.ensures.updates

pub returns-in-None : goal.returns-in-None
returns-in-None c = files_in_changed c.as_str.result.now (string_bytes c.args.path.now) c.args.files.now c.remove.new.self None c.args.bytes c.as_str.ensures.value c.in-None.is c.remove.ensures.updates
