use Rattle.std.proofs.Common.{◌≡◌, ◌∙◌, ◌∷◌, ◌&&◌, not, nat_eq, true, false, sym, ap}
use Rattle.std.proofs.lemmas.Str.Pattern.{ends_text}
use Rattle.std.specs.List.{ends_with}
use Rattle.log4rs_base.specs.Parent.{slash}
use Rattle.log4rs_rolling.proofs.names.has_extension.Goals as goal

pub returns-then-ends_with : goal.returns-then-ends_with
returns-then-ends_with c =
    let path = c.args.path.now in
    let extension = c.args.extension.now in
    let ends : ends_with nat_eq path extension ≡ true =
    sym (ends_text c.ends_with.result extension path c.ends_with.ensures.cases) ∙ c.if-ends_with.true in
    let hidden : c.ends_with-then-ends_with.result ≡ ends_with nat_eq path (slash ∷ extension) =
    ends_text c.ends_with-then-ends_with.result c.args.hidden.now path c.ends_with-then-ends_with.ensures.cases
    ∙ ap (ends_with nat_eq path) c.requires in
    ap not hidden ∙ ap (λ b. b && not (ends_with nat_eq path (slash ∷ extension))) (sym ends)

pub returns-else-ends_with : goal.returns-else-ends_with
returns-else-ends_with c =
    let path = c.args.path.now in
    let extension = c.args.extension.now in
    let ends : ends_with nat_eq path extension ≡ false =
    sym (ends_text c.ends_with.result extension path c.ends_with.ensures.cases) ∙ c.if-ends_with.false in
    c.if-ends_with.false ∙ ap (λ b. b && not (ends_with nat_eq path (slash ∷ extension))) (sym ends)
