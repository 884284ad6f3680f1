use Rattle.std.proofs.Common.{◌≡◌, List, ℕ, [], ◌∷◌, ◌++◌, String, string_bytes, ap, ◌∙◌, arith}
use Rattle.std.proofs.lemmas.Bool.Decides.{nat_tests}
use Rattle.std.proofs.lemmas.List.{nil_from_length}
use Rattle.std.specs.declared.alloc.Global.{Global}
use Rattle.log4rs_encode.specs.Runs.{Run, text, join, runs_in}
use Rattle.log4rs_encode.proofs.Stylings.{begun, grown}
use Rattle.log4rs_encode.proofs.runs.Styled.push_string.Goals as goal

pub returns-then-is_empty-clause-ok : goal.returns-then-is_empty-clause-ok
returns-then-is_empty-clause-ok c =
    let ss = c.self.inside.styles.items in
    let t = string_bytes c.self.inside.text in
    let none : t ≡ [] = nil_from_length t (grind (arith, nat_tests, c.is_empty.ensures, c.if-is_empty.true)) in
    ap (λ (s : String Global). runs_in ss (string_bytes s)) c.replace-gone.ensures.after
    ∙ begun ss t (string_bytes c.args.added) none
    ∙ ap (λ (rs : List Run). join (rs ++ text (string_bytes c.args.added) ∷ [])) c.self.view_is

pub returns-clause-ok : goal.returns-clause-ok
returns-clause-ok c =
    let ss = c.self.inside.styles.items in
    let t = string_bytes c.self.inside.text in
    ap (λ (w : List ℕ). runs_in ss w) (c.in_ok-push_str.ensures.bytes ∙ ap (λ (w : List ℕ). t ++ w) c.deref.ensures)
    ∙ grown ss t (string_bytes c.args.added)
    ∙ ap (λ (rs : List Run). join (rs ++ text (string_bytes c.args.added) ∷ [])) c.self.view_is
