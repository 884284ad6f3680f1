use Rattle.std.proofs.Common.{◌≡◌, ◌<◌, ◌∷◌, [], length, sym, ap, ◌∙◌, arith}
use Rattle.std.proofs.lemmas.Str.{chars-nil}
use Rattle.std.specs.Str.{chars}
use Rattle.log4rs_encode.specs.Spelling.{max_nesting}
use Rattle.log4rs_encode.specs.View.{piece_view}
use Rattle.log4rs_encode.proofs.Exists.{at_the_end}
use Rattle.log4rs_encode.proofs.Progress.{spells_consumes}
use Rattle.log4rs_encode.proofs.pattern.parser.ParserIterator.next.Goals as goal

pub returns-in-Ok-None-clause-steps : goal.returns-in-Ok-None-clause-steps
returns-in-Ok-None-clause-steps c = (sym c.self.view_is ∙ at_the_end (chars c.self.inside.rest.now) (rw c.in-Ok-None.field-0-is at c.in-Ok-None.ensures), chars-nil)

pub returns-in-Err-clause-steps : goal.returns-in-Err-clause-steps
returns-in-Err-clause-steps c = chars-nil

pub returns-in-Ok-Some-clause-goes : goal.returns-in-Ok-Some-clause-goes
returns-in-Ok-Some-clause-goes c =
    let smaller : length (chars c.in-Ok-Some.rest.now) < length c.args.self.now = rw (← c.self.view_is) (spells_consumes max_nesting (chars c.self.inside.rest.now) (piece_view c.in-Ok-Some.piece) _ (rw c.in-Ok-Some.field-0-is at c.in-Ok-Some.ensures)) in
    record { on = λ _. (tt, tt, smaller); keeps = tt; rests = λ _. tt }

pub returns-in-Err-clause-goes : goal.returns-in-Err-clause-goes
returns-in-Err-clause-goes c =
    let some : length c.args.self.now ≡ length (c.in_ok-first.field-0.0 ∷ chars c.in_ok-first.field-0.1.now) =
    ap length (sym c.self.view_is ∙ c.in_ok-first.ensures.chars) in
    let smaller : length (chars []) < length c.args.self.now = rw chars-nil (omega arith) in
    record { on = λ _. (tt, tt, smaller); keeps = tt; rests = λ _. tt }
