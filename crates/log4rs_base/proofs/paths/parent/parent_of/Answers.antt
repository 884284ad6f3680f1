use Rattle.std.proofs.Common.{ap, sym, ◌∙◌, arith}
use Rattle.std.proofs.lemmas.Str.Pattern.{NoCharPasses-char}
use Rattle.log4rs_base.specs.Parent.{slash, unless_empty}
use Rattle.log4rs_base.proofs.Parents.{before_last-none, before_last-split}
use Rattle.log4rs_base.proofs.paths.parent.parent_of.Goals as goal

pub returns-in-Some : goal.returns-in-Some
returns-in-Some c =
    c.unless_empty.ensures
    ∙ ap unless_empty (sym (before_last-split c.args.path.now (c.in-Some.parent, c.in-Some.field-0-1) c.in-Some.ensures.cases))

pub returns-in-None : goal.returns-in-None
returns-in-None c =
    ap unless_empty (sym (before_last-none c.args.path.now
    (λ k h. NoCharPasses-char slash c.args.path.now k c.in-None.ensures.cases (omega arith) h)))
