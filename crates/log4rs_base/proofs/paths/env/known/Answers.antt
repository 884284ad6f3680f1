use Rattle.std.proofs.Common.{◌∙◌, sym, ap}
use Rattle.std.specs.Option.{option_and_then, option_copied}
use Rattle.log4rs_base.specs.Names.{value_in}
use Rattle.log4rs_base.proofs.NameEnds.{no_value}
use Rattle.log4rs_base.proofs.Placeholders.{until_brace-split, until_brace-no_split}
use Rattle.log4rs_base.proofs.paths.env.known.Goals as goal

pub returns-in_default-clause-none : goal.returns-in_default-clause-none
returns-in_default-clause-none c =
    ap (option_and_then (value_in c.args.env.now)) (until_brace-no_split c.args.opened.now c.in_default.ensures.cases)

pub returns-clause-found : goal.returns-clause-found
returns-clause-found c =
    ap (option_and_then (value_in c.args.env.now))
    (until_brace-split c.args.opened.now (c.in-Some.name, c.in-Some.behind) c.in-Some.ensures.cases)
    ∙ sym c.value_of.ensures ∙ ap option_copied c.in_ok-value.was

pub returns-then-not-is_closed-clause-none : goal.returns-then-not-is_closed-clause-none
returns-then-not-is_closed-clause-none c =
    no_value c.args.env.now c.args.opened.now c.utf8.opened (sym c.is_closed.ensures ∙ c.if-not-is_closed.true)
