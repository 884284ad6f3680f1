-- Cells: clusters and styles.
use Rattle.std.proofs.Common.{◌≡◌, ℕ, zero, suc, ◌+◌, ◌-◌, ◌<◌, ◌≤◌, List, [], ◌∷◌, ◌++◌, length, map, reverse, replicate, min, Bool, true, false, Option, Some, None, encode_utf8, if◌then◌else◌, unwrap_or, refl, sym, ap, subst, ◌∙◌, arith}
use Rattle.std.proofs.lemmas.List.{append_assoc, append-nil, reverse-append, replicate_more}
use Rattle.std.specs.List.{concat}
use Rattle.unicode_segmentation.specs.Grapheme.{graphemes, is_grapheme_break}
use Rattle.unicode_segmentation.proofs.SegmentsLemmas.{concat-segments}
use Rattle.log4rs_encode.specs.declared.pattern.piece.Alignment.{Alignment}
use Rattle.log4rs_encode.specs.declared.pattern.piece.Alignment.TheVariants.{Left, Right}
use Rattle.log4rs_encode.specs.declared.pattern.piece.Parameters.{Parameters}
use Rattle.log4rs_encode.specs.declared.styles.Style.{Style}
use Rattle.log4rs_encode.specs.Runs.{Run, text, style, before, join, IsJoined, AreWhole}
use Rattle.log4rs_encode.specs.Fit.{Cell, cluster, mark, cells, runs_of_cells, width, keep_first, keep_last, cut, truncated, padding, padded, fit}
use Rattle.log4rs_encode.proofs.Joined.{join_front, join_back, join-IsJoined, one_text}

pub runs-append : (cs ds : List Cell) → runs_of_cells (cs ++ ds) ≡ runs_of_cells cs ++ runs_of_cells ds
runs-append [] ds = refl
runs-append (cluster g ∷ cs) ds = ap (λ w. text g ∷ w) (runs-append cs ds)
runs-append (mark s ∷ cs) ds = ap (λ w. style s ∷ w) (runs-append cs ds)

-- clusters alone are one text
pub clusters_join : (gs : List (List ℕ)) → join (runs_of_cells (map cluster gs)) ≡ join (text (concat gs) ∷ [])
clusters_join [] = refl
clusters_join (g ∷ gs) = ap (before (text g)) (clusters_join gs) ∙ one_text g (concat gs)

-- cells that are not changed are the text that they were
cells_join : (rs : List Run) → AreWhole rs → join (runs_of_cells (cells rs)) ≡ join rs
cells_join [] h = refl
cells_join (style s ∷ rs) h = ap (λ w. style s ∷ w) (cells_join rs h)
cells_join (text t ∷ rs) h =
    let gs = graphemes true t in
    let rest = cells rs in
    let whole : concat gs ≡ t = concat-segments (is_grapheme_break true) t h.0 in
    ap join (runs-append (map cluster gs) rest)
    ∙ sym (join_front (runs_of_cells (map cluster gs)) (runs_of_cells rest))
    ∙ ap (λ w. join (w ++ runs_of_cells rest)) (clusters_join gs)
    ∙ join_front (text (concat gs) ∷ []) (runs_of_cells rest)
    ∙ ap (λ w. join (text w ∷ runs_of_cells rest)) whole
    ∙ ap (before (text t)) (cells_join rs h.1)

pub cells_whole : (rs : List Run) → AreWhole rs → IsJoined rs → join (runs_of_cells (cells rs)) ≡ rs
cells_whole rs w h = cells_join rs w ∙ join-IsJoined rs h

pub width-append : (cs ds : List Cell) → width (cs ++ ds) ≡ width cs + width ds
width-append [] ds = omega arith
width-append (cluster g ∷ cs) ds = omega (arith, width-append cs ds)
width-append (mark s ∷ cs) ds = width-append cs ds

pub width-clusters : (gs : List (List ℕ)) → width (map cluster gs) ≡ length gs
width-clusters [] = refl
width-clusters (g ∷ gs) = ap suc (width-clusters gs)

pub width-reverse : (cs : List Cell) → width (reverse cs) ≡ width cs
width-reverse [] = refl
width-reverse (cluster g ∷ cs) = ap width (reverse-append (cluster g ∷ []) cs) ∙ width-append (reverse cs) (cluster g ∷ []) ∙ omega (arith, width-reverse cs)
width-reverse (mark s ∷ cs) = ap width (reverse-append (mark s ∷ []) cs) ∙ width-append (reverse cs) (mark s ∷ []) ∙ omega (arith, width-reverse cs)

pub width-keep : (n : ℕ) (cs : List Cell) → width (keep_first n cs) ≡ min n (width cs)
width-keep n [] = omega arith
width-keep n (mark s ∷ cs) = width-keep n cs
width-keep zero (cluster g ∷ cs) = omega (arith, width-keep zero cs)
width-keep (suc n) (cluster g ∷ cs) = omega (arith, width-keep n cs)

pub keep_all : (n : ℕ) (cs : List Cell) → width cs ≤ n → keep_first n cs ≡ cs
keep_all n [] l = refl
keep_all n (mark s ∷ cs) l = ap (λ w. mark s ∷ w) (keep_all n cs l)
keep_all zero (cluster g ∷ cs) l = absurd (omega (arith, l))
keep_all (suc n) (cluster g ∷ cs) l = ap (λ w. cluster g ∷ w) (keep_all n cs (omega (arith, l)))

pub keep_cut : (n : ℕ) (cs : List Cell) → cut 0 n cs ≡ keep_first n cs
keep_cut n [] = refl
keep_cut n (mark s ∷ cs) = ap (λ w. mark s ∷ w) (keep_cut n cs)
keep_cut zero (cluster g ∷ cs) = keep_cut zero cs
keep_cut (suc n) (cluster g ∷ cs) = ap (λ w. cluster g ∷ w) (keep_cut n cs)

keep-append : (n : ℕ) (cs ds : List Cell) → keep_first n (cs ++ ds) ≡ keep_first n cs ++ keep_first (n - width cs) ds
keep-append n [] ds = ap (λ k. keep_first k ds) (omega arith)
keep-append n (mark s ∷ cs) ds = ap (λ w. mark s ∷ w) (keep-append n cs ds)
keep-append zero (cluster g ∷ cs) ds = keep-append zero cs ds ∙ ap (λ k. keep_first zero cs ++ keep_first k ds) (omega arith)
keep-append (suc n) (cluster g ∷ cs) ds = ap (λ w. cluster g ∷ w) (keep-append n cs ds ∙ ap (λ k. keep_first n cs ++ keep_first k ds) (omega arith))

last-cons : (n : ℕ) (c : Cell) (cs : List Cell) → keep_last n (c ∷ cs) ≡ reverse (keep_first (n - width cs) (c ∷ [])) ++ keep_last n cs
last-cons n c cs =
    ap (λ w. reverse (keep_first n w)) (reverse-append (c ∷ []) cs)
    ∙ ap reverse (keep-append n (reverse cs) (c ∷ []))
    ∙ reverse-append (keep_first n (reverse cs)) (keep_first (n - width (reverse cs)) (c ∷ []))
    ∙ ap (λ k. reverse (keep_first (n - k) (c ∷ [])) ++ keep_last n cs) (width-reverse cs)

last_whole : (g : List ℕ) (cs : List Cell) (m k : ℕ) → cut (width cs - m) m cs ≡ keep_last m cs → m - width cs ≡ suc k → cut (suc (width cs) - m) m (cluster g ∷ cs) ≡ keep_last m (cluster g ∷ cs)
last_whole g cs zero k ih e = absurd (omega (arith, e))
last_whole g cs (suc m) k ih e =
    let none : suc (width cs) - suc m ≡ 0 = omega (arith, e) in
    let less : width cs - suc m ≡ 0 = omega (arith, e) in
    let all : cut 0 m cs ≡ cs = keep_cut m cs ∙ keep_all m cs (omega (arith, e)) in
    let last : keep_last (suc m) cs ≡ cs = sym ih ∙ ap (λ w. cut w (suc m) cs) less ∙ keep_cut (suc m) cs ∙ keep_all (suc m) cs (omega (arith, e)) in
    ap (λ w. cut w (suc m) (cluster g ∷ cs)) none ∙ ap (λ w. cluster g ∷ w) (all ∙ sym last)
    ∙ sym (last-cons (suc m) (cluster g) cs ∙ ap (λ w. reverse (keep_first w (cluster g ∷ [])) ++ keep_last (suc m) cs) e)

last_step : (g : List ℕ) (cs : List Cell) (n k : ℕ) → cut (width cs - n) n cs ≡ keep_last n cs → n - width cs ≡ k → cut (suc (width cs) - n) n (cluster g ∷ cs) ≡ keep_last n (cluster g ∷ cs)
last_step g cs n zero ih e =
    let more : suc (width cs) - n ≡ suc (width cs - n) = omega (arith, e) in
    ap (λ w. cut w n (cluster g ∷ cs)) more ∙ ih ∙ sym (last-cons n (cluster g) cs ∙ ap (λ w. reverse (keep_first w (cluster g ∷ [])) ++ keep_last n cs) e)
last_step g cs n (suc k) ih e = last_whole g cs n k ih e

-- the last clusters are what is left without the first
pub last_cut : (n : ℕ) (cs : List Cell) → cut (width cs - n) n cs ≡ keep_last n cs
last_cut n [] = refl
last_cut n (mark s ∷ cs) = ap (λ w. mark s ∷ w) (last_cut n cs) ∙ sym (last-cons n (mark s) cs)
last_cut n (cluster g ∷ cs) = last_step g cs n (n - width cs) (last_cut n cs) refl

-- one cluster that is left out
pub cut_skip : (n k : ℕ) (g : List ℕ) (cs : List Cell) → 0 < n → cut (n - 1) k cs ≡ cut n k (cluster g ∷ cs)
cut_skip zero k g cs l = absurd (omega (arith, l))
cut_skip (suc n) k g cs l = ap (λ w. cut w k cs) (omega arith)

-- one cluster that is kept
pub cut_keep : (n k : ℕ) (g : List ℕ) (cs : List Cell) → n ≡ 0 → 0 < k → cluster g ∷ cut n (k - 1) cs ≡ cut n k (cluster g ∷ cs)
cut_keep zero zero g cs e l = absurd (omega (arith, l))
cut_keep zero (suc k) g cs e l = ap (λ w. cluster g ∷ cut 0 w cs) (omega arith)
cut_keep (suc n) k g cs e l = absurd (omega (arith, e))

pub pushed_cell : (old new : List Run) (n k : ℕ) (g : List ℕ) → new ≡ join (old ++ text g ∷ []) → n ≡ 0 → 0 < k → (cs : List Cell)
    → join (new ++ runs_of_cells (cut n (k - 1) cs)) ≡ join (old ++ runs_of_cells (cut n k (cluster g ∷ cs)))
pushed_cell old new n k g is e l cs =
    ap (λ w. join (w ++ runs_of_cells (cut n (k - 1) cs))) is
    ∙ join_front (old ++ text g ∷ []) (runs_of_cells (cut n (k - 1) cs))
    ∙ ap join (append_assoc old (text g ∷ []) (runs_of_cells (cut n (k - 1) cs)))
    ∙ ap (λ w. join (old ++ runs_of_cells w)) (cut_keep n k g cs e l)

pub marked_cell : (old new : List Run) (n k : ℕ) (s : Style) → new ≡ old ++ style s ∷ [] → (cs : List Cell)
    → join (new ++ runs_of_cells (cut n k cs)) ≡ join (old ++ runs_of_cells (cut n k (mark s ∷ cs)))
marked_cell old new n k s is cs =
    ap (λ w. join (w ++ runs_of_cells (cut n k cs))) is ∙ ap join (append_assoc old (style s ∷ []) (runs_of_cells (cut n k cs)))

pub cells-cons : (r : Run) (rs : List Run) → cells (r ∷ rs) ≡ cells (r ∷ []) ++ cells rs
cells-cons (text t) rs = ap (λ w. w ++ cells rs) (sym (append-nil (map cluster (graphemes true t))))
cells-cons (style s) rs = refl

pub width-cons : (r : Run) (rs : List Run) → width (cells (r ∷ rs)) ≡ width (cells (r ∷ [])) + width (cells rs)
width-cons r rs = ap width (cells-cons r rs) ∙ width-append (cells (r ∷ [])) (cells rs)

pub width_text : (t : List ℕ) → length (graphemes true t) ≡ width (cells (text t ∷ []))
width_text t = sym (ap width (append-nil (map cluster (graphemes true t))) ∙ width-clusters (graphemes true t))

concat-append : (xs : List (List ℕ)) (y : List ℕ) → concat (xs ++ y ∷ []) ≡ concat xs ++ y
concat-append [] y = append-nil y
concat-append (x ∷ xs) y = ap (λ w. x ++ w) (concat-append xs y) ∙ sym (append_assoc x (concat xs) y)

pub filled_more : (n : ℕ) (y : List ℕ) → concat (replicate n y) ++ y ≡ concat (replicate (n + 1) y)
filled_more n y = sym (concat-append (replicate n y) y) ∙ ap concat (replicate_more n y)

width-last : (n : ℕ) (cs : List Cell) → width (keep_last n cs) ≡ min n (width cs)
width-last n cs = width-reverse (keep_first n (reverse cs)) ∙ width-keep n (reverse cs) ∙ ap (min n) (width-reverse cs)

pub last_all : (n : ℕ) (cs : List Cell) → width cs ≤ n → keep_last n cs ≡ cs
last_all n cs l = sym (last_cut n cs) ∙ ap (λ w. cut w n cs) (omega (arith, l)) ∙ keep_cut n cs ∙ keep_all n cs l

pub width-truncated : (right : Bool) (greatest : Option ℕ) (cs : List Cell) → width (truncated right greatest cs) ≡ min (width cs) (unwrap_or greatest (width cs))
width-truncated right None cs = omega arith
width-truncated true (Some n) cs = omega (arith, width-keep n cs)
width-truncated false (Some n) cs = omega (arith, width-last n cs)

pub truncated_cut : (right : Bool) (greatest : Option ℕ) (cs : List Cell) → unwrap_or greatest (width cs) < width cs
    → cut (if right then 0 else width cs - unwrap_or greatest (width cs)) (unwrap_or greatest (width cs)) cs ≡ truncated right greatest cs
truncated_cut right None cs l = absurd (omega (arith, l))
truncated_cut true (Some n) cs l = keep_cut n cs
truncated_cut false (Some n) cs l = last_cut n cs

pub truncated_all : (right : Bool) (greatest : Option ℕ) (cs : List Cell) → width cs ≤ unwrap_or greatest (width cs) → truncated right greatest cs ≡ cs
truncated_all right None cs l = refl
truncated_all true (Some n) cs l = keep_all n cs l
truncated_all false (Some n) cs l = last_all n cs l

replicate_clusters : (n : ℕ) (g : List ℕ) → replicate n (cluster g) ≡ map cluster (replicate n g)
replicate_clusters zero g = refl
replicate_clusters (suc n) g = ap (λ w. cluster g ∷ w) (replicate_clusters n g)

padding_is : (fill : ℕ) (least : Option ℕ) (cs : List Cell) → padding fill least cs ≡ map cluster (replicate (unwrap_or least 0 - width cs) (encode_utf8 fill))
padding_is fill None cs = let none : 0 ≡ 0 - width cs = omega arith in ap (λ n. map cluster (replicate n (encode_utf8 fill))) none
padding_is fill (Some n) cs = replicate_clusters (n - width cs) (encode_utf8 fill)

join_both : (xs ys : List Run) → join (join xs ++ join ys) ≡ join (xs ++ ys)
join_both xs ys = join_front xs (join ys) ∙ join_back xs ys

padded_join : (align : Alignment) (gs : List (List ℕ)) (cs : List Cell)
    → join (padded align (text (concat gs) ∷ []) (join (runs_of_cells cs))) ≡ join (runs_of_cells (padded align (map cluster gs) cs))
padded_join Left gs cs =
    sym (join_back (join (runs_of_cells cs)) (text (concat gs) ∷ []))
    ∙ ap (λ w. join (join (runs_of_cells cs) ++ w)) (sym (clusters_join gs))
    ∙ join_both (runs_of_cells cs) (runs_of_cells (map cluster gs))
    ∙ sym (ap join (runs-append cs (map cluster gs)))
padded_join Right gs cs =
    sym (join_front (text (concat gs) ∷ []) (join (runs_of_cells cs)))
    ∙ ap (λ w. join (w ++ join (runs_of_cells cs))) (sym (clusters_join gs))
    ∙ join_both (runs_of_cells (map cluster gs)) (runs_of_cells cs)
    ∙ sym (ap join (runs-append (map cluster gs) cs))

-- what is kept, padded, is the text fitted
pub fit_padded : (ps : Parameters) (rs kept : List Run) (n : ℕ) → kept ≡ join (runs_of_cells (truncated ps.right_truncate ps.max_width (cells rs)))
    → n ≡ unwrap_or ps.min_width 0 - min (width (cells rs)) (unwrap_or ps.max_width (width (cells rs)))
    → join (padded ps.align (text (concat (replicate n (encode_utf8 ps.fill))) ∷ []) kept) ≡ fit ps rs
unfolding fit
fit_padded ps rs kept n is e =
    let cs = truncated ps.right_truncate ps.max_width (cells rs) in
    let same : n ≡ unwrap_or ps.min_width 0 - width cs = e ∙ ap (λ w. unwrap_or ps.min_width 0 - w) (sym (width-truncated ps.right_truncate ps.max_width (cells rs))) in
    ap (λ k. join (padded ps.align (text (concat (replicate k (encode_utf8 ps.fill))) ∷ []) kept)) same
    ∙ ap (λ k. join (padded ps.align (text (concat (replicate (unwrap_or ps.min_width 0 - width cs) (encode_utf8 ps.fill))) ∷ []) k)) is
    ∙ padded_join ps.align (replicate (unwrap_or ps.min_width 0 - width cs) (encode_utf8 ps.fill)) cs
    ∙ ap (λ w. join (runs_of_cells (padded ps.align w cs))) (sym (padding_is ps.fill ps.min_width cs))

-- nothing is left to cut
pub cut_end : (kept xs rs : List Run) (n k : ℕ) → rs ≡ [] → join (kept ++ runs_of_cells (cut n k (cells rs))) ≡ join xs → IsJoined kept → kept ≡ join xs
cut_end kept xs rs n k none e h =
    sym (join-IsJoined kept h) ∙ ap join (sym (append-nil kept)) ∙ sym (ap (λ (w : List Run). join (kept ++ runs_of_cells (cut n k (cells w)))) none) ∙ e

pub kept_all : (right : Bool) (greatest : Option ℕ) (cs : List Cell) (w g : ℕ) → w ≡ width cs → g ≡ unwrap_or greatest w → w ≤ g → truncated right greatest cs ≡ cs
kept_all right greatest cs w g e f l =
    let same : g ≡ unwrap_or greatest (width cs) = f ∙ ap (unwrap_or greatest) e in
    truncated_all right greatest cs (subst (λ n. width cs ≤ n) same (omega (arith, e, l)))

pub kept_first : (right : Bool) (greatest : Option ℕ) (cs : List Cell) (w g : ℕ) → w ≡ width cs → g ≡ unwrap_or greatest w → g < w → right ≡ true → cut 0 g cs ≡ truncated right greatest cs
kept_first right greatest cs w g e f l is =
    let same : g ≡ unwrap_or greatest (width cs) = f ∙ ap (unwrap_or greatest) e in
    ap (λ n. cut 0 n cs) same ∙ truncated_cut true greatest cs (subst (λ n. n < width cs) same (omega (arith, e, l))) ∙ ap (λ b. truncated b greatest cs) (sym is)

pub kept_last : (right : Bool) (greatest : Option ℕ) (cs : List Cell) (w g : ℕ) → w ≡ width cs → g ≡ unwrap_or greatest w → g < w → right ≡ false → cut (w - g) g cs ≡ truncated right greatest cs
kept_last right greatest cs w g e f l is =
    let same : g ≡ unwrap_or greatest (width cs) = f ∙ ap (unwrap_or greatest) e in
    ap (λ n. cut (n - g) g cs) e ∙ ap (λ n. cut (width cs - n) n cs) same ∙ truncated_cut false greatest cs (subst (λ n. n < width cs) same (omega (arith, e, l))) ∙ ap (λ b. truncated b greatest cs) (sym is)

-- padding that is empty
pub padded_none : (align : Alignment) (kept : List Run) (n : ℕ) (fill : List ℕ) → n ≡ 0 → IsJoined kept
    → kept ≡ join (padded align (text (concat (replicate n fill)) ∷ []) kept)
padded_none Left kept n fill e h =
    sym (join-IsJoined kept h) ∙ ap join (sym (append-nil kept)) ∙ join_back kept (text [] ∷ [])
    ∙ ap (λ (k : ℕ). join (kept ++ text (concat (replicate k fill)) ∷ [])) (sym e)
padded_none Right kept n fill e h =
    sym (join-IsJoined kept h) ∙ ap (λ (k : ℕ). join (text (concat (replicate k fill)) ∷ kept)) (sym e)
