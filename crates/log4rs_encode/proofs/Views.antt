-- What an argument stands for.
use Rattle.std.proofs.Common.{map, [], ◌∷◌, refl, ap, sym, ◌∙◌, List, ℕ, ◌≡◌}
use Rattle.log4rs_encode.specs.Syntax.{Piece, Lists, argument, lists_of}
use Rattle.log4rs_encode.specs.declared.pattern.piece.Formatter.{Formatter}
use Rattle.log4rs_encode.specs.declared.pattern.piece.Parameters.{Parameters}
use Rattle.log4rs_encode.specs.declared.pattern.piece.Piece.{fold-roll-Piece}
use Rattle.log4rs_encode.specs.declared.pattern.piece.Piece.TheOpen as opened
use Rattle.log4rs_encode.specs.declared.pattern.piece.Piece.TheVariants as variants
use Rattle.log4rs_encode.specs.declared.pattern.piece.Piece.TheFolds.{fold_out-Formatter}
use Rattle.log4rs_encode.specs.View.{piece_view, lists_view, piece_step, formatter_step}

map_after_map : {A B C : Type 0} (f : A → B) (g : B → C) (xs : List A) → map g (map f xs) ≡ map (λ x. g (f x)) xs
map_after_map f g [] = refl
map_after_map f g (x ∷ xs) = ap (λ ys. g (f x) ∷ ys) (map_after_map f g xs)

pub view-argument : (f : Formatter) (p : Parameters) → piece_view (variants.Argument f p) ≡ argument f.name.now (lists_view f.args.items) p
view-argument f p =
    let formatter = fold_out-Formatter Piece (List ℕ × Lists) piece_step formatter_step f in
    ap piece_view (sym (variants.rolls-Argument f p)) ∙ fold-roll-Piece Piece (List ℕ × Lists) piece_step formatter_step (opened.Argument f p)
    ∙ ap (λ (x : List ℕ × Lists). argument x.0 x.1 p) formatter ∙ ap (λ ls. argument f.name.now ls p) (ap lists_of (map_after_map _ _ f.args.items))

pub ruleset view_lemmas = (view-argument)
