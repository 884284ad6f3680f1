-- Pieces that are texts render as their text.
use Rattle.std.proofs.Common.{◌≡◌, ℕ, List, [], ◌∷◌, ◌++◌, Option, Some, None, refl, sym, ap, ◌∙◌}
use Rattle.std.specs.Option.{option_map}
use Rattle.log4rs_base.specs.declared.record.Context.{Context}
use Rattle.log4rs_base.specs.declared.record.Record.{Record}
use Rattle.log4rs_encode.specs.Escaped.{text_of}
use Rattle.log4rs_encode.specs.Rendering.{rendered_all}
use Rattle.log4rs_encode.specs.Runs as runs
use Rattle.log4rs_encode.specs.Syntax.{Pieces, no_pieces, piece, text, argument, error}
use Rattle.log4rs_encode.specs.Table.{chunks_of}
use Rattle.log4rs_encode.proofs.Joined.{one_text}

pub text_renders : (ps : Pieces) (t : List ℕ) (r : Record) (k : Context) → text_of ps ≡ Some t
    → runs.join (rendered_all r k (chunks_of ps)) ≡ runs.join (runs.text t ∷ [])
text_renders no_pieces t r k h =
    let none : [] ≡ t = cc in ap (λ (w : List ℕ). runs.join (runs.text w ∷ [])) none
text_renders (piece (text u) ps) t r k h = by_rest (text_of ps) refl (λ v. text_renders ps v r k)
  where
    by_rest : (rest : Option (List ℕ)) → text_of ps ≡ rest
        → ((v : List ℕ) → text_of ps ≡ Some v → runs.join (rendered_all r k (chunks_of ps)) ≡ runs.join (runs.text v ∷ []))
        → runs.join (rendered_all r k (chunks_of (piece (text u) ps))) ≡ runs.join (runs.text t ∷ [])
    by_rest None e others =
        let made : None ≡ Some t = sym (ap (option_map (λ w. u ++ w)) e) ∙ h in cc
    by_rest (Some v) e others =
        let made : Some (u ++ v) ≡ Some t = sym (ap (option_map (λ w. u ++ w)) e) ∙ h in
        let whole : u ++ v ≡ t = cc in
        ap (runs.before (runs.text u)) (others v e) ∙ one_text u v ∙ ap (λ (w : List ℕ). runs.join (runs.text w ∷ [])) whole
text_renders (piece (argument name lists ps) qs) t r k h = cc
text_renders (piece (error m) qs) t r k h = cc
