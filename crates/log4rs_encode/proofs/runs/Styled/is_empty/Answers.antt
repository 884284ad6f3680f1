use Rattle.std.proofs.Common.{◌≡◌, length, string_bytes, [], ◌∙◌, sym, ap, arith}
use Rattle.std.proofs.lemmas.Bool.Decides.{nat_tests}
use Rattle.std.proofs.lemmas.List.{nil_from_length}
use Rattle.log4rs_encode.proofs.Stylings.{no_text, no_style, nothing_left}
use Rattle.log4rs_encode.proofs.runs.Styled.is_empty.Goals as goal

pub returns-then-is_empty : goal.returns-then-is_empty
returns-then-is_empty c =
    let ss = c.self.inside.styles.items in
    let t = string_bytes c.self.inside.text in
    let none : t ≡ [] = nil_from_length t (grind (arith, nat_tests, c.is_empty.ensures, c.if-is_empty.true)) in (
      λ yes. let no : ss ≡ [] = nil_from_length ss (grind (arith, nat_tests, c.is_empty-then-is_empty.ensures, yes)) in sym c.self.view_is ∙ nothing_left ss t no none,
      λ e. let no : length ss ≡ 0 = ap length (no_style ss t (c.self.view_is ∙ e)) in grind (arith, nat_tests, c.is_empty-then-is_empty.ensures, no),
    )

pub returns-else-is_empty : goal.returns-else-is_empty
returns-else-is_empty c =
    let ss = c.self.inside.styles.items in
    let t = string_bytes c.self.inside.text in (
      λ yes. absurd (cc (sym c.if-is_empty.false ∙ yes)),
      λ e. let no : length t ≡ 0 = ap length (no_text ss t (c.self.view_is ∙ e)) in grind (arith, nat_tests, c.is_empty.ensures, no),
    )
