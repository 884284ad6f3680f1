use Rattle.std.specs.Str.{chars}
use Rattle.log4rs_command.proofs.reading.read_back.Goals as goal

pub read_all-requires-clause-pattern : goal.read_all-requires-clause-pattern
unfolding chars
read_all-requires-clause-pattern g c = c.in_ok-journal.ensures
