use Rattle.std.proofs.Common.{◌≡◌, ◌<◌, [], length, string_bytes, sym, ap, ◌∙◌, arith}
use Rattle.std.proofs.lemmas.Bool.Decides.{nat_tests}
use Rattle.std.proofs.lemmas.List.{nil_from_length}
use Rattle.log4rs_encode.specs.Runs.{only_text, plain_bytes}
use Rattle.log4rs_encode.proofs.Stylings.{nothing_left, on_any_error, only_text-some, plain_alone}
use Rattle.log4rs_encode.proofs.runs.Styled.take_text.Goals as goal

pub returns-then-is_empty-clause-text : goal.returns-then-is_empty-clause-text
returns-then-is_empty-clause-text c =
    let ss = c.self.inside.styles.items in
    let none : ss ≡ [] = nil_from_length ss (grind (arith, nat_tests, c.is_empty.ensures, c.if-is_empty.true)) in
    ap string_bytes c.replace.ensures.value ∙ plain_alone ss (string_bytes c.self.inside.text) none ∙ ap plain_bytes c.self.view_is

pub returns-then-is_empty-clause-empty : goal.returns-then-is_empty-clause-empty
returns-then-is_empty-clause-empty c =
    let ss = c.self.inside.styles.items in
    let none : ss ≡ [] = nil_from_length ss (grind (arith, nat_tests, c.is_empty.ensures, c.if-is_empty.true)) in
    nothing_left ss (string_bytes c.replace.new.dest) none (ap string_bytes c.replace.ensures.after ∙ c.new-nothing.ensures.bytes)

pub returns-in_err-text-clause-moved : goal.returns-in_err-text-clause-moved
returns-in_err-text-clause-moved c =
    let ss = c.self.inside.styles.items in
    let some : 0 < length ss = grind (arith, nat_tests, c.is_empty.ensures, c.if-is_empty.false) in
    on_any_error c.from_residual.result (sym (only_text-some ss (string_bytes c.self.inside.text) some ∙ ap only_text c.self.view_is))
