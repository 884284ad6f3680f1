use Rattle.std.proofs.Common.{sym, arith}
use Rattle.std.proofs.lemmas.Str.Pattern.{NoCharPasses-char}
use Rattle.log4rs_settings.proofs.Splits.{after-none, after-split}
use Rattle.log4rs_settings.proofs.formats.name_of.Goals as goal

pub returns-in-Some : goal.returns-in-Some
returns-in-Some c =
    let at = c.in-Some.ensures.cases in
    sym (after-split 47 c.args.path.now (c.in-Some.field-0-0, c.in-Some.name) (omega arith) at at.2.1.ends)

pub returns-in-None : goal.returns-in-None
returns-in-None c =
    sym (after-none 47 c.args.path.now (λ k h. NoCharPasses-char 47 c.args.path.now k c.in-None.ensures.cases (omega arith) h))
