use Rattle.std.proofs.Common.{◌≡◌, [], String, string_bytes, sym, ap, ◌∙◌}
use Rattle.std.specs.declared.alloc.Global.{Global}
use Rattle.log4rs_encode.specs.Runs.{runs_in}
use Rattle.log4rs_encode.proofs.Stylings.{begun}
use Rattle.log4rs_encode.proofs.runs.Styled.take_end.Goals as goal

pub returns : goal.returns
returns c =
    let ss = c.self.inside.styles.items in
    let none : string_bytes c.replace.new.dest ≡ [] = ap string_bytes c.replace.ensures.after ∙ c.new.ensures.bytes in
    sym (begun ss (string_bytes c.replace.new.dest) (string_bytes c.replace.result) none)
    ∙ ap (λ (s : String Global). runs_in ss (string_bytes s)) c.replace.ensures.value
    ∙ c.self.view_is
