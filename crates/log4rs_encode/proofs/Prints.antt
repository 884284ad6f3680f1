-- What has been printed so far.
use Rattle.std.proofs.Common.{◌≡◌, ℕ, ◌+◌, ◌<◌, ◌≤◌, List, [], ◌∷◌, ◌++◌, length, drop, get_or, Result, Ok, Err, OnOk, is_ok, Bool, true, false, if◌then◌else◌, sym, ap, ◌∙◌}
use Rattle.std.proofs.lemmas.List.{append_assoc, append-nil, at_drop_more, drop_all}
use Rattle.log4rs_base.specs.declared.record.Context.{Context}
use Rattle.log4rs_base.specs.declared.record.Record.{Record}
use Rattle.log4rs_encode.specs.Runs.{Run, text, style, join, IsJoined}
use Rattle.log4rs_encode.specs.Fit.{fit, fitted, has_width}
use Rattle.log4rs_encode.specs.declared.pattern.piece.Parameters.{Parameters}
use Rattle.log4rs_encode.specs.Chunk.{Chunk, no_chunks}
use Rattle.log4rs_encode.specs.ChunkView.{before, field_before, some_text, chunk_view, chunks_view}
use Rattle.log4rs_encode.specs.Rendering.{field_text, rendered_all}
use Rattle.log4rs_encode.specs.declared.pattern.chunk.Field.{Field}
use Rattle.log4rs_encode.specs.declared.pattern.chunk.Chunk as source
use Rattle.log4rs_encode.specs.declared.styles.Style.{Style}
use Rattle.log4rs_encode.proofs.Tables.{rendered-before}
use Rattle.log4rs_encode.proofs.Joined.{join_front, join_back, join-empty, join-IsJoined, IsJoined-from, IsJoined-join, IsJoined-style, one_text}

-- joined runs stay as they are
pub nothing_more : (xs : List Run) → IsJoined xs → xs ≡ join (xs ++ [])
nothing_more xs h = sym (ap join (append-nil xs) ∙ join-IsJoined xs h)

-- runs that are joined first, and others
pub ends_begun : (xs ys rs : List Run) → join xs ≡ ys → join (xs ++ rs) ≡ join (ys ++ rs)
ends_begun xs ys rs e = sym (join_front xs rs) ∙ ap (λ (w : List Run). join (w ++ rs)) e

-- a text that takes another one in
pub text_grown : (xs : List Run) (t u : List ℕ) → join (xs ++ text (t ++ u) ∷ []) ≡ join ((xs ++ text t ∷ []) ++ text u ∷ [])
text_grown xs t u =
    sym (join_back xs (text (t ++ u) ∷ []))
    ∙ ap (λ (ys : List Run). join (xs ++ ys)) (sym (one_text t u))
    ∙ join_back xs (text t ∷ text u ∷ [])
    ∙ ap join (sym (append_assoc xs (text t ∷ []) (text u ∷ [])))

-- runs behind a text that was taken in before them
pub beside : (xs ys zs rs : List Run) (t u : List ℕ) → ys ≡ join (xs ++ text t ∷ []) → u ≡ [] → zs ≡ join (ys ++ rs) → join (zs ++ text u ∷ []) ≡ join ((xs ++ text t ∷ []) ++ rs)
beside xs ys zs rs t u taken none now =
    ap (λ (w : List ℕ). join (zs ++ text w ∷ [])) none
    ∙ sym (join-empty zs (IsJoined-from zs (ys ++ rs) now))
    ∙ now ∙ ap (λ (w : List Run). join (w ++ rs)) taken ∙ join_front (xs ++ text t ∷ []) rs

-- a text that takes a field and the text behind it in
pub field_grown : (r : Record) (k : Context) (xs : List Run) (t u b : List ℕ)
    → join (xs ++ text (t ++ (u ++ b)) ∷ []) ≡ join ((xs ++ text t ∷ []) ++ (text u ∷ rendered_all r k (before (some_text b) no_chunks)))
field_grown r k xs t u [] = ap (λ (w : List ℕ). join (xs ++ text (t ++ w) ∷ [])) (append-nil u) ∙ text_grown xs t u
field_grown r k xs t u (c ∷ b) =
    text_grown xs t (u ++ c ∷ b)
    ∙ text_grown (xs ++ text t ∷ []) u (c ∷ b)
    ∙ ap join (append_assoc (xs ++ text t ∷ []) (text u ∷ []) (text (c ∷ b) ∷ []))

-- a chunk of a field and the text behind it
pub field_printed : (r : Record) (k : Context) (xs : List Run) (f : Field) (t u s b : List ℕ) (c d : source.Chunk) → u ≡ t ++ field_text r k f ++ s → s ≡ b → chunk_view d ≡ field_before f b → c ≡ d
    → join (xs ++ text u ∷ []) ≡ join ((xs ++ text t ∷ []) ++ rendered_all r k (before (chunk_view c) no_chunks))
field_printed r k xs f t u s b c d grown same shows is =
    let shown = field_text r k f in
    ap (λ (w : List ℕ). join (xs ++ text w ∷ [])) (grown ∙ append_assoc t shown s ∙ ap (λ (w : List ℕ). t ++ (shown ++ w)) same)
    ∙ field_grown r k xs t shown b
    ∙ ap (λ (p : List Chunk). join ((xs ++ text t ∷ []) ++ rendered_all r k (before p no_chunks))) (sym shows)
    ∙ ap (λ p. join ((xs ++ text t ∷ []) ++ rendered_all r k (before (chunk_view p) no_chunks))) (sym is)

-- one chunk more
pub chunk_more : (r : Record) (k : Context) (xs ys zs : List Run) (cs : List source.Chunk) (i : ℕ) (c : source.Chunk) → i < length cs → c ≡ get_or cs i c
    → join ys ≡ join (xs ++ rendered_all r k (before (chunk_view c) no_chunks)) → join (xs ++ rendered_all r k (chunks_view (drop i cs))) ≡ zs → join (ys ++ rendered_all r k (chunks_view (drop (i + 1) cs))) ≡ zs
chunk_more r k xs ys zs cs i c l is now all =
    let rest = rendered_all r k (chunks_view (drop (i + 1) cs)) in
    let one = rendered_all r k (before (chunk_view c) no_chunks) in
    sym (join_front ys rest) ∙ ap (λ w. join (w ++ rest)) now ∙ join_front (xs ++ one) rest ∙ ap join (append_assoc xs one rest)
    ∙ ap (λ (w : List Run). join (xs ++ w)) (sym (rendered-before r k (chunk_view c) (chunks_view (drop (i + 1) cs))))
    ∙ sym (at_drop_more (λ ds. join (xs ++ rendered_all r k (chunks_view ds))) cs i c l ∙ ap (λ d. join (xs ++ rendered_all r k (before (chunk_view d) (chunks_view (drop (i + 1) cs))))) (sym is))
    ∙ all

pub chunk_end : (r : Record) (k : Context) (xs zs : List Run) (cs : List source.Chunk) (i : ℕ) → length cs ≤ i → join (xs ++ rendered_all r k (chunks_view (drop i cs))) ≡ zs → join xs ≡ zs
chunk_end r k xs zs cs i l all = sym (ap join (append-nil xs)) ∙ sym (ap (λ ds. join (xs ++ rendered_all r k (chunks_view ds))) (drop_all i cs l)) ∙ all

-- runs between two styles
pub between : (xs ys rs zs : List Run) (s t : Style) → ys ≡ xs ++ style s ∷ [] → zs ≡ join (ys ++ rs)
    → zs ++ style t ∷ [] ≡ join (xs ++ (style s ∷ (rs ++ style t ∷ [])))
between xs ys rs zs s t e f =
    let all : zs ≡ join (xs ++ (style s ∷ rs)) = f ∙ ap (λ w. join (w ++ rs)) e ∙ ap join (append_assoc xs (style s ∷ []) rs) in
    ap (λ w. w ++ style t ∷ []) all
    ∙ sym (join-IsJoined _ (IsJoined-style (join (xs ++ (style s ∷ rs))) t (IsJoined-join (xs ++ (style s ∷ rs)))))
    ∙ join_front (xs ++ (style s ∷ rs)) (style t ∷ [])
    ∙ ap join (append_assoc xs (style s ∷ rs) (style t ∷ []))

-- what was pushed stands behind, where there was room
pub pushed_on : {V E : Type 0} (r : Result V E) (s t u : List ℕ) → t ≡ (if is_ok r then s ++ u else s) → OnOk r (t ≡ s ++ u)
pushed_on (Ok v) s t u is = is
pushed_on (Err e) s t u is = tt

-- runs without a width stay, and those with one are fitted
pub unfitted : (ps : Parameters) (rs : List Run) → has_width ps ≡ false → fitted ps rs ≡ rs
unfitted ps rs none = ap (λ (b : Bool). if b then fit ps (join rs) else rs) none

pub in_column : (ps : Parameters) (rs : List Run) → has_width ps ≡ true → fitted ps rs ≡ fit ps (join rs)
in_column ps rs some = ap (λ (b : Bool). if b then fit ps (join rs) else rs) some
