use Rattle.std.proofs.Common.{rules}
use Rattle.log4rs_rolling.proofs.Leaving.{rename_leaves}
use Rattle.log4rs_rolling.proofs.moves.rename_file.Goals as goal

pub returns-clause-renamed : goal.returns-clause-renamed
returns-clause-renamed g c = search (rules, rename_leaves)
