use Rattle.std.proofs.Common.{◌≡◌, List, ℕ, [], ◌∷◌, ◌++◌, string_bytes, ap, ◌∙◌}
use Rattle.log4rs_encode.specs.declared.runs.Styling.{Styling}
use Rattle.log4rs_encode.specs.Runs.{Run, style, runs_in}
use Rattle.log4rs_encode.proofs.Stylings.{styled_more}
use Rattle.log4rs_encode.proofs.runs.Styled.set_style.Goals as goal

pub returns-clause-ok : goal.returns-clause-ok
returns-clause-ok c =
    let ss = c.self.inside.styles.items in
    let one : Styling = record { text = c.replace.result; style = c.args.added } in
    let none : string_bytes c.replace.new.dest ≡ [] = ap string_bytes c.replace.ensures.after ∙ c.kept_room-room.ensures in
    ap (λ (w : List Styling). runs_in w (string_bytes c.replace.new.dest)) (c.push_reserved.ensures.items ∙ ap (λ (w : List Styling). w ++ one ∷ []) c.in_ok-reserve.ensures.items)
    ∙ ap (λ (w : List ℕ). runs_in (ss ++ one ∷ []) w) none
    ∙ styled_more ss (string_bytes c.self.inside.text) one (ap string_bytes c.replace.ensures.value)
    ∙ ap (λ (rs : List Run). rs ++ style c.args.added ∷ []) c.self.view_is
