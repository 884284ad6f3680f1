use Rattle.std.proofs.Common.{None, arith}
use Rattle.std.proofs.lemmas.Str.Pattern.{split_parts}
use Rattle.log4rs_base.proofs.Placeholders.{no_closing}
use Rattle.log4rs_base.proofs.paths.time.placeholder.Goals as goal

pub returns-in-None-split_once-clause-none : goal.returns-in-None-split_once-clause-none
returns-in-None-split_once-clause-none c =
    no_closing c.args.text.now (c.in-Some.before, c.in-Some.opened) c.in-Some.ensures.cases
    (split_parts 125 c.in-Some.opened.now None c.in-None-split_once.ensures.cases (omega arith))
