use Rattle.std.specs.Str.{chars}
use Rattle.log4rs_encode.proofs.pattern.PatternEncoder.try_default.Goals as goal

pub returns : goal.returns
unfolding chars
returns c = c.new.ensures
