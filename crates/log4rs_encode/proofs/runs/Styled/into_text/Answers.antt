use Rattle.std.proofs.Common.{◌<◌, length, string_bytes, sym, ap, ◌∙◌, arith}
use Rattle.std.proofs.lemmas.Bool.Decides.{nat_tests}
use Rattle.log4rs_encode.specs.Runs.{only_text}
use Rattle.log4rs_encode.proofs.Stylings.{on_any_error, only_text-some}
use Rattle.log4rs_encode.proofs.runs.Styled.into_text.Goals as goal

pub returns-clause-moved : goal.returns-clause-moved
returns-clause-moved c =
    let ss = c.self.inside.styles.items in
    let some : 0 < length ss = grind (arith, nat_tests, c.is_empty.ensures, c.if-is_empty.false) in
    on_any_error c.to_text.result (sym (only_text-some ss (string_bytes c.self.inside.text) some ∙ ap only_text c.self.view_is))
