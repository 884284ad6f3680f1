-- A text that is fitted where it is added.
use Rattle.std.proofs.Common.{◌≡◌, ℕ, zero, suc, ◌+◌, ◌-◌, true, List, [], ◌∷◌, ◌++◌, length, map, min, take, drop, replicate, encode_utf8, unwrap_or, append-nil, refl, sym, ap, ◌∙◌, arith}
use Rattle.std.proofs.lemmas.List.{append_assoc, length-map, take-map, drop-map}
use Rattle.std.specs.List.{concat, list_all}
use Rattle.std.specs.Str.{chars, IsUtf8}
use Rattle.unicode_segmentation.specs.Grapheme.{graphemes, is_grapheme_break}
use Rattle.unicode_segmentation.specs.Segments as segments
use Rattle.unicode_segmentation.proofs.SegmentsLemmas.{concat-segments}
use Rattle.log4rs_encode.specs.declared.pattern.piece.Alignment.{Alignment}
use Rattle.log4rs_encode.specs.declared.pattern.piece.Alignment.TheVariants.{Left, Right}
use Rattle.log4rs_encode.specs.declared.pattern.piece.Parameters.{Parameters}
use Rattle.log4rs_encode.specs.Runs.{Run, text, join}
use Rattle.log4rs_encode.specs.Fit.{Cell, cluster, cells, runs_of_cells, width, cut, truncated, padded, fit, is_printable}
use Rattle.log4rs_encode.proofs.Joined.{join_front, join_back}
use Rattle.log4rs_encode.proofs.Cells.{runs-append, clusters_join, fit_padded}
use Rattle.log4rs_encode.proofs.Printable.{graphemes_printable}

pub cells-join : (t : List ℕ) → cells (join (text t ∷ [])) ≡ cells (text t ∷ [])
unfolding segments.segments segments.cut chars
cells-join [] = refl
cells-join (b ∷ bs) = refl

-- a text that is not cut
pub uncut : (out new : List Run) (t : List ℕ) → IsUtf8 t → new ≡ join (out ++ text t ∷ []) → new ≡ join (out ++ runs_of_cells (cells (text t ∷ [])))
uncut out new t utf8 e =
    let gs = graphemes true t in
    let whole : concat gs ≡ t = concat-segments (is_grapheme_break true) t utf8 in
    let same : join (text t ∷ []) ≡ join (runs_of_cells (map cluster gs)) = ap (λ (w : List ℕ). join (text w ∷ [])) (sym whole) ∙ sym (clusters_join gs) in
    e ∙ sym (join_back out (text t ∷ [])) ∙ ap (λ (w : List Run). join (out ++ w)) same ∙ join_back out (runs_of_cells (map cluster gs))
    ∙ ap (λ (w : List Cell). join (out ++ runs_of_cells w)) (sym (append-nil (map cluster gs)))

-- what is kept of a text, as its clusters
abbrev pub kept_runs : Parameters → List ℕ → List Run
kept_runs ps t = runs_of_cells (truncated ps.right_truncate ps.max_width (cells (text t ∷ [])))

abbrev pub fill_runs : Parameters → ℕ → List Run
fill_runs ps n = text (concat (replicate n (encode_utf8 ps.fill))) ∷ []

abbrev pub missing_at : Parameters → ℕ → ℕ
missing_at ps n = unwrap_or ps.min_width 0 - min n (unwrap_or ps.max_width n)

abbrev pub missing_of : Parameters → List Cell → ℕ
missing_of ps cs = missing_at ps (width cs)

fit_is : (ps : Parameters) (t : List ℕ) (n : ℕ) → n ≡ missing_of ps (cells (text t ∷ []))
    → join (padded ps.align (fill_runs ps n) (join (kept_runs ps t))) ≡ fit ps (join (text t ∷ []))
fit_is ps t n count =
    let same : cells (text t ∷ []) ≡ cells (join (text t ∷ [])) = sym (cells-join t) in
    fit_padded ps (join (text t ∷ [])) (join (kept_runs ps t)) n
    (ap (λ (cs : List Cell). join (runs_of_cells (truncated ps.right_truncate ps.max_width cs))) same) (count ∙ ap (missing_of ps) same)

-- padded behind
pub fitted_left : (ps : Parameters) (t : List ℕ) (out mid new : List Run) (n : ℕ) → ps.align ≡ Left → n ≡ missing_of ps (cells (text t ∷ []))
    → mid ≡ join (out ++ kept_runs ps t) → new ≡ join (mid ++ fill_runs ps n) → new ≡ join (out ++ fit ps (join (text t ∷ [])))
fitted_left ps t out mid new n left count e f =
    let k = kept_runs ps t in
    let p = fill_runs ps n in
    let whole : join (join k ++ p) ≡ fit ps (join (text t ∷ [])) = ap (λ (a : Alignment). join (padded a p (join k))) (sym left) ∙ fit_is ps t n count in
    f ∙ ap (λ (w : List Run). join (w ++ p)) e ∙ join_front (out ++ k) p ∙ ap join (append_assoc out k p) ∙ sym (join_back out (k ++ p))
    ∙ ap (λ (w : List Run). join (out ++ w)) (sym (join_front k p) ∙ whole)

-- padded in front
pub fitted_right : (ps : Parameters) (t : List ℕ) (out mid new : List Run) (n : ℕ) → ps.align ≡ Right → n ≡ missing_of ps (cells (text t ∷ []))
    → mid ≡ join (out ++ fill_runs ps n) → new ≡ join (mid ++ kept_runs ps t) → new ≡ join (out ++ fit ps (join (text t ∷ [])))
fitted_right ps t out mid new n right count e f =
    let k = kept_runs ps t in
    let p = fill_runs ps n in
    let whole : join (p ++ join k) ≡ fit ps (join (text t ∷ [])) = ap (λ (a : Alignment). join (padded a p (join k))) (sym right) ∙ fit_is ps t n count in
    f ∙ ap (λ (w : List Run). join (w ++ k)) e ∙ join_front (out ++ p) k ∙ ap join (append_assoc out p k) ∙ sym (join_back out (p ++ k))
    ∙ ap (λ (w : List Run). join (out ++ w)) (sym (join_back p k) ∙ whole)

-- the window over some clusters
pub cut_pieces : (gs : List (List ℕ)) (cs : List Cell) (skip keep s k : ℕ) → s ≡ min skip (length gs) → k ≡ min keep (length gs - s)
    → cut skip keep (map cluster gs ++ cs) ≡ map cluster (take k (drop s gs)) ++ cut (skip - s) (keep - k) cs
cut_pieces [] cs skip keep s k e f =
    let none : s ≡ 0 = omega (arith, e) in
    let nothing : k ≡ 0 = omega (arith, f) in
    rw (none, nothing) (ap (λ (n : ℕ). cut n keep cs) (omega arith) ∙ ap (λ (n : ℕ). cut (skip - 0) n cs) (omega arith))
cut_pieces (g ∷ gs) cs zero zero s k e f =
    let none : s ≡ 0 = omega (arith, e) in
    let nothing : k ≡ 0 = omega (arith, f) in
    rw (none, nothing) (cut_pieces gs cs zero zero 0 0 (omega arith) (omega arith))
cut_pieces (g ∷ gs) cs zero (suc keep) s k e f =
    let none : s ≡ 0 = omega (arith, e) in
    let less = min keep (length gs) in
    let some : k ≡ suc less = omega (arith, f) in
    rw (none, some) (ap (λ (w : List Cell). cluster g ∷ w) (cut_pieces gs cs zero keep 0 less (omega arith) (omega arith)
    ∙ ap (λ (n : ℕ). map cluster (take less (drop 0 gs)) ++ cut (0 - 0) n cs) (omega arith)))
cut_pieces (g ∷ gs) cs (suc skip) keep s k e f =
    let less = min skip (length gs) in
    let some : s ≡ suc less = omega (arith, e) in
    rw some (cut_pieces gs cs skip keep less k refl (omega (arith, f, some))
    ∙ ap (λ (n : ℕ). map cluster (take k (drop less gs)) ++ cut n (keep - k) cs) (omega arith))

abbrev singles : List ℕ → List (List ℕ)
singles t = map (λ (c : ℕ). c ∷ []) t

concat_singles : (t : List ℕ) → concat (singles t) ≡ t
concat_singles [] = refl
concat_singles (c ∷ t) = ap (λ (w : List ℕ). c ∷ w) (concat_singles t)

-- the characters of a window, each a cluster of its own
pub pushed_range : (old new : List Run) (t piece : List ℕ) (skip keep s k : ℕ) → list_all is_printable t ≡ true
    → s ≡ min skip (length t) → k ≡ min keep (length t - s) → piece ≡ take (s + k - s) (drop s t) → new ≡ join (old ++ text piece ∷ [])
    → (cs : List Cell) → join (new ++ runs_of_cells (cut (skip - s) (keep - k) cs)) ≡ join (old ++ runs_of_cells (cut skip keep (map cluster (graphemes true t) ++ cs)))
pushed_range old new t piece skip keep s k shown e f is pushed cs =
    let rest = cut (skip - s) (keep - k) cs in
    let b = runs_of_cells rest in
    let x = take k (drop s t) in
    let a = runs_of_cells (map cluster (singles x)) in
    let here : piece ≡ x = is ∙ ap (λ (n : ℕ). take n (drop s t)) (omega arith) in
    let long : length (singles t) ≡ length t = length-map t (λ (c : ℕ). c ∷ []) in
    let kept : take k (drop s (singles t)) ≡ singles x = ap (take k) (drop-map (λ (c : ℕ). c ∷ []) s t) ∙ take-map (λ (c : ℕ). c ∷ []) k (drop s t) in
    let cells_are : cut skip keep (map cluster (graphemes true t) ++ cs) ≡ map cluster (singles x) ++ rest =
    ap (λ (gs : List (List ℕ)). cut skip keep (map cluster gs ++ cs)) (graphemes_printable t shown)
    ∙ cut_pieces (singles t) cs skip keep s k (omega (arith, e, long)) (omega (arith, f, long))
    ∙ ap (λ (gs : List (List ℕ)). map cluster gs ++ rest) kept in
    let one : join (text piece ∷ b) ≡ join (a ++ b) =
    sym (join_front (text piece ∷ []) b)
    ∙ ap (λ (w : List Run). join (w ++ b)) (ap (λ (w : List ℕ). join (text w ∷ [])) (here ∙ sym (concat_singles x)) ∙ sym (clusters_join (singles x)))
    ∙ join_front a b in
    ap (λ (w : List Run). join (w ++ b)) pushed ∙ join_front (old ++ text piece ∷ []) b ∙ ap join (append_assoc old (text piece ∷ []) b)
    ∙ sym (join_back old (text piece ∷ b)) ∙ ap (λ (w : List Run). join (old ++ w)) one ∙ join_back old (a ++ b)
    ∙ ap (λ (w : List Run). join (old ++ w)) (sym (runs-append (map cluster (singles x)) rest))
    ∙ ap (λ (w : List Cell). join (old ++ runs_of_cells w)) (sym cells_are)
