use Rattle.std.proofs.Common.{◌≡◌, ◌<◌, [], length, Some, string_bytes, ap, ◌∙◌, arith}
use Rattle.std.proofs.lemmas.Bool.Decides.{nat_tests}
use Rattle.std.proofs.lemmas.List.{nil_from_length}
use Rattle.log4rs_encode.specs.Runs.{only_text}
use Rattle.log4rs_encode.proofs.Stylings.{only_text-none, only_text-some}
use Rattle.log4rs_encode.proofs.runs.Styled.as_text.Goals as goal

pub returns-then-is_empty : goal.returns-then-is_empty
returns-then-is_empty c =
    let ss = c.self.inside.styles.items in
    let none : ss ≡ [] = nil_from_length ss (grind (arith, nat_tests, c.is_empty.ensures, c.if-is_empty.true)) in
    ap Some c.as_str.ensures.value ∙ only_text-none ss (string_bytes c.self.inside.text) none ∙ ap only_text c.self.view_is

pub returns : goal.returns
returns c =
    let ss = c.self.inside.styles.items in
    let some : 0 < length ss = grind (arith, nat_tests, c.is_empty.ensures, c.if-is_empty.false) in
    only_text-some ss (string_bytes c.self.inside.text) some ∙ ap only_text c.self.view_is
