use Rattle.std.proofs.Common.{List, ℕ, [], ◌∷◌, ◌++◌, string_bytes, ap, ◌∙◌}
use Rattle.log4rs_encode.specs.Runs.{Run, text, join, runs_in}
use Rattle.log4rs_encode.proofs.Stylings.{grown}
use Rattle.log4rs_encode.proofs.runs.Styled.push_text.Goals as goal

pub returns-clause-ok : goal.returns-clause-ok
returns-clause-ok c =
    let ss = c.self.inside.styles.items in
    ap (λ (w : List ℕ). runs_in ss w) c.in_ok-push_str.ensures.bytes
    ∙ grown ss (string_bytes c.self.inside.text) c.args.added.now
    ∙ ap (λ (rs : List Run). join (rs ++ text c.args.added.now ∷ [])) c.self.view_is
