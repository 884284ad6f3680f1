-- A printable character of ASCII is a cluster of its own.
use Rattle.std.proofs.Common.{◌≡◌, ℕ, zero, suc, ◌<◌, Bool, true, false, not, ◌&&◌, ◌||◌, ◌==◌, List, [], ◌∷◌, ◌++◌, length, map, slice_index, encode_utf8_all, eqb-true, refl, sym, ap, ◌∙◌, arith}
use Rattle.std.proofs.lemmas.Bool.Decides.{nat_tests}
use Rattle.std.proofs.lemmas.List.{length-map}
use Rattle.std.proofs.lemmas.Str.{chars-IsAscii, encode_ascii}
use Rattle.std.specs.List.{list_all}
use Rattle.ucd_table.proofs.Facts.{Stepped-below}
use Rattle.ucd_breaks.specs.GraphemeClusterBreak.{grapheme_cluster_break, grapheme_cluster_break_number}
use Rattle.ucd_breaks.specs.declared.GraphemeClusterBreak.TheVariants.{Other}
use Rattle.ucd_breaks.proofs.Computing.{ucd_breaks}
use Rattle.ucd_breaks.proofs.GraphemeClusterBreakLemmas.{grapheme_cluster_break_stepped, grapheme_cluster_break_number_injective}
use Rattle.unicode_segmentation.specs.Grapheme.{graphemes, is_grapheme_break}
use Rattle.unicode_segmentation.specs.Segments.{cut, segments}
use Rattle.unicode_segmentation.proofs.GraphemeLemmas.{is_grapheme_break-others}
use Rattle.log4rs_encode.specs.Fit.{is_printable, width, cells}
use Rattle.log4rs_encode.specs.Runs.{text}
use Rattle.log4rs_encode.proofs.Cells.{width_text}

printable_below : (c : ℕ) → is_printable c ≡ true → c < 128
printable_below c shown = grind (arith, nat_tests)

other_printable : (c : ℕ) → is_printable c ≡ true → Other ≡ grapheme_cluster_break c
unfolding ucd_breaks
other_printable c shown =
    let test = Stepped-below grapheme_cluster_break grapheme_cluster_break_stepped
    (λ x v. not (is_printable x) || (grapheme_cluster_break_number Other == grapheme_cluster_break_number v)) 128 refl c (printable_below c shown) in
    grapheme_cluster_break_number_injective _ _ (eqb-true _ _ (rw shown at test))

break_at_end : (c : ℕ) (before : List ℕ) → is_grapheme_break true (c ∷ before) [] ≡ true
unfolding is_grapheme_break
break_at_end c before = refl

front_passes : (a b : Bool) → (a && b) ≡ true → (a ≡ true) × (b ≡ true)
front_passes true true h = (refl, refl)
front_passes true false h = absurd (cc)
front_passes false b h = absurd (cc)

break_between : (c d : ℕ) (before after : List ℕ) → is_printable c ≡ true → is_printable d ≡ true → is_grapheme_break true (c ∷ before) (d ∷ after) ≡ true
break_between c d before after here next =
    let early = printable_below d next in
    sym (is_grapheme_break-others true (c ∷ before) d after (omega arith) (omega arith) (other_printable c here) (other_printable d next))

cut_printable : (before cs : List ℕ) → list_all is_printable cs ≡ true → cut (is_grapheme_break true) before cs [] ≡ map (λ (c : ℕ). c ∷ []) cs
unfolding cut
cut_printable before [] h = refl
cut_printable before (c ∷ []) h = rw (break_at_end c before) refl
cut_printable before (c ∷ d ∷ ds) h =
    let here = front_passes (is_printable c) (list_all is_printable (d ∷ ds)) h in
    let next = front_passes (is_printable d) (list_all is_printable ds) here.1 in
    rw (break_between c d before (ds ++ []) here.0 next.0) (ap (λ (w : List (List ℕ)). (c ∷ []) ∷ w) (cut_printable (c ∷ before) (d ∷ ds) here.1))

encoded : (cs : List ℕ) → list_all is_printable cs ≡ true → map encode_utf8_all (map (λ (c : ℕ). c ∷ []) cs) ≡ map (λ (c : ℕ). c ∷ []) cs
encoded [] h = refl
encoded (c ∷ cs) h =
    let here = front_passes (is_printable c) (list_all is_printable cs) h in
    rw (encode_ascii c (printable_below c here.0)) (ap (λ (w : List (List ℕ)). (c ∷ []) ∷ w) (encoded cs here.1))

ascii_printable : (cs : List ℕ) → list_all is_printable cs ≡ true → (i : ℕ) → slice_index cs i < 128
ascii_printable [] h i = omega arith
ascii_printable (c ∷ cs) h zero = printable_below c (front_passes (is_printable c) (list_all is_printable cs) h).0
ascii_printable (c ∷ cs) h (suc i) = ascii_printable cs (front_passes (is_printable c) (list_all is_printable cs) h).1 i

pub graphemes_printable : (t : List ℕ) → list_all is_printable t ≡ true → graphemes true t ≡ map (λ (c : ℕ). c ∷ []) t
unfolding segments
graphemes_printable t h =
    ap (λ (cs : List ℕ). map encode_utf8_all (cut (is_grapheme_break true) [] cs [])) (chars-IsAscii t (ascii_printable t h))
    ∙ ap (map encode_utf8_all) (cut_printable [] t h) ∙ encoded t h

pub width_printable : (t : List ℕ) → list_all is_printable t ≡ true → length t ≡ width (cells (text t ∷ []))
width_printable t h =
    sym (sym (width_text t) ∙ ap length (graphemes_printable t h) ∙ length-map t (λ (c : ℕ). c ∷ []))
