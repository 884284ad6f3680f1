use Rattle.std.proofs.Common.{[], ◌∙◌}
use Rattle.log4rs_encode.proofs.Prints.{nothing_more}
use Rattle.log4rs_encode.proofs.pattern.fit.push_window.Goals as goal

pub returns : goal.returns
returns c = nothing_more c.text.new.kept c.runs-joined.ensures.joined ∙ c.in_ok-text.ensures []
