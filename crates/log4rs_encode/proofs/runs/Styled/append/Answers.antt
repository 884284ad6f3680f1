use Rattle.std.proofs.Common.{◌≡◌, ◌<◌, List, ℕ, [], ◌∷◌, ◌++◌, drop, length, String, string_bytes, refl, sym, ap, ◌∙◌, arith}
use Rattle.std.proofs.lemmas.Bool.Decides.{nat_tests}
use Rattle.std.proofs.lemmas.List.{append_assoc, nil_from_length}
use Rattle.std.proofs.lemmas.Result.{on_ok_weaker}
use Rattle.std.specs.declared.alloc.Global.{Global}
use Rattle.log4rs_encode.specs.declared.runs.Styling.{Styling}
use Rattle.log4rs_encode.specs.Runs.{Run, join, runs_in}
use Rattle.log4rs_encode.proofs.Stylings.{appended, first_of, text_appended}
use Rattle.log4rs_encode.proofs.runs.Styled.append.Goals as goal

pub returns-then-is_empty-clause-ok : goal.returns-then-is_empty-clause-ok
returns-then-is_empty-clause-ok c =
    let ss = c.other.inside.styles.items in
    let none : ss ≡ [] = nil_from_length ss (grind (arith, nat_tests, c.is_empty.ensures, c.if-is_empty.true)) in
    on_ok_weaker c.push_string.result (λ e. e ∙ text_appended c.args.self.now ss (string_bytes c.other.inside.text) none
    ∙ ap (λ (rs : List Run). join (c.args.self.now ++ rs)) c.other.view_is) c.push_string.ensures.ok

pub returns-clause-ok : goal.returns-clause-ok
returns-clause-ok c =
    let ss = c.self.inside.styles.items in
    let t = string_bytes c.self.inside.text in
    let us = c.other.inside.styles.items in
    let u = string_bytes c.other.inside.text in
    let q : Styling = c.remove-first.result in
    let p : Styling = record { text = c.replace.result; style = q.style } in
    let rest = drop 1 us in
    let some : 0 < length us = grind (arith, nat_tests, c.is_empty.ensures, c.if-is_empty.false) in
    let grew : string_bytes p.text ≡ t ++ string_bytes q.text =
    ap string_bytes c.replace.ensures.value ∙ c.in_ok-push_str.ensures.bytes ∙ ap (λ (w : List ℕ). t ++ w) c.deref.ensures in
    let all : c.append.new.self.items ≡ ss ++ p ∷ rest =
    c.in_ok-append.ensures.items
    ∙ ap (λ (w : List Styling). w ++ c.remove-first.new.self.items) (c.push_reserved.ensures.items ∙ ap (λ (w : List Styling). w ++ p ∷ []) c.in_ok-reserve.ensures.items)
    ∙ ap (λ (w : List Styling). (ss ++ p ∷ []) ++ w) c.remove-first.ensures.by_index.2
    ∙ append_assoc ss (p ∷ []) rest in
    ap (λ (w : List Styling). runs_in w (string_bytes c.replace.new.dest)) all
    ∙ ap (λ (s : String Global). runs_in (ss ++ p ∷ rest) (string_bytes s)) c.replace.ensures.after
    ∙ appended ss t p q rest u grew refl
    ∙ ap (λ (w : List Styling). join (runs_in ss t ++ runs_in w u)) (sym (first_of us q some c.remove-first.ensures.value))
    ∙ ap (λ (rs : List Run). join (rs ++ runs_in us u)) c.self.view_is
    ∙ ap (λ (rs : List Run). join (c.args.self.now ++ rs)) c.other.view_is
