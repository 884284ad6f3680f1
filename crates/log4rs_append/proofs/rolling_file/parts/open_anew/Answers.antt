use Rattle.std.proofs.Common.{rules}
use Rattle.log4rs_rolling.proofs.Parts.{emptied_length}
use Rattle.log4rs_append.proofs.rolling_file.parts.open_anew.Goals as goal

pub returns-then-not-append : goal.returns-then-not-append
returns-then-not-append g c = search (rules, emptied_length)
