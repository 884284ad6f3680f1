use Rattle.std.proofs.Common.{◌≡◌, ℕ, List, [], ◌∷◌, Some, None, Bor, length, refl, ap, sym, ◌∙◌, arith}
use Rattle.std.proofs.lemmas.Bool.Decides.{nat_tests}
use Rattle.std.proofs.lemmas.Str.Pattern.{NoCharPasses-char}
use Rattle.std.specs.List.{before_last, after_last}
use Rattle.std.specs.Option.{option_copied}
use Rattle.log4rs_settings.specs.Paths.{is_dot, behind}
use Rattle.log4rs_settings.proofs.Splits.{before-none, before-split, after-split}
use Rattle.log4rs_settings.proofs.formats.dotted.Goals as goal

behind-empty : (stem ext : List ℕ) → length stem ≡ 0 → None ≡ behind stem ext
behind-empty [] ext h = refl
behind-empty (b ∷ bs) ext h = absurd (omega arith)

behind-some : (stem ext : List ℕ) → ¬ (length stem ≡ 0) → Some ext ≡ behind stem ext
behind-some [] ext h = absurd (h refl)
behind-some (b ∷ bs) ext h = refl

pub returns-in_err-stem : goal.returns-in_err-stem
returns-in_err-stem c =
    let none = before-none 46 c.args.name.now (λ k h. NoCharPasses-char 46 c.args.name.now k c.in_err-stem.ensures.cases (omega arith) h) in
    ap option_copied c.from_residual.ensures ∙ ap (λ stem. behind stem (after_last is_dot c.args.name.now)) (sym none)

pub returns-then-is_empty : goal.returns-then-is_empty
returns-then-is_empty c =
    let name = c.args.name.now in
    let x : Bor (List ℕ) × Bor (List ℕ) = (c.in_ok-stem.stem, c.in_ok-stem.extension) in
    let at = c.in_ok-stem.ensures.cases in
    let empty : length c.in_ok-stem.stem.now ≡ 0 = grind (arith, nat_tests) in
    behind-empty c.in_ok-stem.stem.now c.in_ok-stem.extension.now empty
    ∙ ap (λ stem. behind stem c.in_ok-stem.extension.now) (sym (before-split 46 name x (omega arith) at at.2.1.ends))
    ∙ ap (λ rest. behind (before_last is_dot name) rest) (sym (after-split 46 name x (omega arith) at at.2.1.ends))

pub returns : goal.returns
returns c =
    let name = c.args.name.now in
    let x : Bor (List ℕ) × Bor (List ℕ) = (c.in_ok-stem.stem, c.in_ok-stem.extension) in
    let at = c.in_ok-stem.ensures.cases in
    let some : ¬ (length c.in_ok-stem.stem.now ≡ 0) = grind (arith, nat_tests) in
    behind-some c.in_ok-stem.stem.now c.in_ok-stem.extension.now some
    ∙ ap (λ stem. behind stem c.in_ok-stem.extension.now) (sym (before-split 46 name x (omega arith) at at.2.1.ends))
    ∙ ap (λ rest. behind (before_last is_dot name) rest) (sym (after-split 46 name x (omega arith) at at.2.1.ends))
