use Rattle.std.proofs.lemmas.Str.Pattern.{contains_text}
use Rattle.log4rs_rolling.specs.Archives.{placeholder}
use Rattle.log4rs_rolling.proofs.Filling.{has_slice}
use Rattle.log4rs_rolling.proofs.names.has_placeholder.Goals as goal

pub returns : goal.returns
returns c =
    has_slice c.contains.result c.args.pattern.now
    (contains_text c.contains.result placeholder c.args.pattern.now c.contains.ensures.cases)
