use Rattle.std.proofs.Common.{◌≡◌, ◌∷◌, [], ◌∙◌, List, ℕ, true, false, Bool, ap, sym, rules}
use Rattle.log4rs_rolling.specs.Roller.{names_beside}
use Rattle.log4rs_rolling.proofs.Distinct.{is_among, one_more}
use Rattle.log4rs_rolling.proofs.fixed_window.FixedWindowRoller.beside.Goals as goal

pub returns-then-not-self : goal.returns-then-not-self
returns-then-not-self c = λ name.
    let off : c.args.self.now.background ≡ false = search rules in
    one_more c.new-names.result c.insert.new.self c.in_ok-from_str.field-0 [] c.in_ok-insert.ensures.updates
    (λ other. search (rules, c.new-names.ensures.empty)) name
    ∙ ap (λ (k : List ℕ). is_among name (k ∷ [])) c.in_ok-from_str.ensures.ok
    ∙ ap (λ (b : Bool). is_among name (names_beside b c.args.active.now)) (sym off)

pub returns : goal.returns
returns c = λ name.
    let active = c.args.active.now in
    let on : c.args.self.now.background ≡ true = search rules in
    one_more c.insert.new.self c.insert-2.new.self c.in_ok-waiting_path.field-0 (active ∷ []) c.in_ok-insert-2.ensures.updates
    (λ other.
    one_more c.new-names.result c.insert.new.self c.in_ok-from_str.field-0 [] c.in_ok-insert.ensures.updates
    (λ third. search (rules, c.new-names.ensures.empty)) other
    ∙ ap (λ (k : List ℕ). is_among other (k ∷ [])) c.in_ok-from_str.ensures.ok) name
    ∙ ap (λ (k : List ℕ). is_among name (k ∷ active ∷ [])) c.in_ok-waiting_path.ensures
    ∙ ap (λ (b : Bool). is_among name (names_beside b active)) (sym on)
