-- The components of a name, put together again, and the names that a look-up finds.
use Rattle.std.proofs.Common.{◌≡◌, ℕ, Bool, true, false, cond, ◌&&◌, ◌==◌, List, [], ◌∷◌, None, refl, sym, ap, ◌∙◌}
use Rattle.std.specs.Str.{bytes_eq}
use Rattle.std.specs.Cmp.Lexicographic.{pointwise}
use Rattle.std.specs.Bool.{Decides}
use Rattle.std.proofs.lemmas.Bool.{and_parts, eqb-true}
use Rattle.std.proofs.lemmas.Slice.Eq.{bytes_eq-Decides, slice_eq-Decides}
use Rattle.log4rs_base.specs.Text.{Text}
use Rattle.log4rs_config.specs.Name.{colon, in_front, components}
use Rattle.log4rs_config.specs.Walk.{joined, name_at}
use Rattle.log4rs_config.proofs.Components.{first_part}
use Rattle.log4rs_config.proofs.Halving.{position_none}

joined-in_front : (b : ℕ) (parts : List Text) → joined (in_front b parts) ≡ b ∷ joined parts
joined-in_front b [] = refl
joined-in_front b (part ∷ []) = refl
joined-in_front b (part ∷ next ∷ parts) = refl

joined_step : (a b : ℕ) (rest : Text) (t : Bool) → ((a == colon) && (b == colon)) ≡ t → joined (components rest) ≡ rest → joined (components (b ∷ rest)) ≡ b ∷ rest
    → joined (cond t ([] ∷ components rest) (in_front a (components (b ∷ rest)))) ≡ a ∷ b ∷ rest
joined_step a b rest true e below beside =
    let (p, ps, first) = first_part rest in
    let (is_a, is_b) = and_parts (a == colon) (b == colon) e in
    let same_a : a ≡ colon = eqb-true a colon is_a in
    let same_b : b ≡ colon = eqb-true b colon is_b in
    let whole : joined ([] ∷ components rest) ≡ colon ∷ colon ∷ joined (components rest) = rw first refl in
    whole ∙ cc
joined_step a b rest false e below beside = joined-in_front a (components (b ∷ rest)) ∙ ap (λ (x : Text). a ∷ x) beside

-- the components give the name back
pub joined-components : (name : Text) → joined (components name) ≡ name
joined-components [] = refl
joined-components (a ∷ []) = refl
joined-components (a ∷ b ∷ rest) =
    joined_step a b rest ((a == colon) && (b == colon)) refl (joined-components rest) (joined-components (b ∷ rest))

same_parts : (xs ys : List Text) → Decides (pointwise bytes_eq xs ys) (xs ≡ ys)
same_parts xs ys = slice_eq-Decides bytes_eq-Decides xs ys (pointwise bytes_eq xs ys) refl

-- a name with other components than any text has is found nowhere
not_there : (names : List Text) (parts : List Text) → pointwise bytes_eq (components (joined parts)) parts ≡ false → (k : Text) (b : Bool) → pointwise bytes_eq (components k) parts ≡ b → b ≡ false
not_there names parts e k false h = refl
not_there names parts e k true h =
    let same : components k ≡ parts = (same_parts (components k) parts).0 h in
    let back : components (joined parts) ≡ parts = ap (λ (x : List Text). components (joined x)) (sym same) ∙ (ap components (joined-components k) ∙ same) in
    sym ((same_parts (components (joined parts)) parts).1 back) ∙ e

by_test : (names : List Text) (parts : List Text) (b : Bool) → pointwise bytes_eq (components (joined parts)) parts ≡ b → cond b (name_at names (components (joined parts))) None ≡ name_at names parts
by_test names parts true e = ap (name_at names) ((same_parts (components (joined parts)) parts).0 e)
by_test names parts false e =
    sym (position_none (λ k. pointwise bytes_eq (components k) parts) names (λ j k at. not_there names parts e k (pointwise bytes_eq (components k) parts) refl))
