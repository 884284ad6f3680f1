-- Styled text fitted into a column.
use Rattle.std.specs.Prelude.{ℕ, zero, suc, ◌-◌, Bool, true, false, List, [], ◌∷◌, ◌++◌, map}
use Rattle.std.specs.Prelude.{reverse, replicate, Option, Some, None, is_some, ◌||◌, if◌then◌else◌}
use Rattle.std.specs.Prelude.{encode_utf8, ◌&&◌, nat_le, nat_lt}
use Rattle.unicode_segmentation.specs.Grapheme.{graphemes}
use Rattle.log4rs_encode.specs.declared.pattern.piece.Alignment.{Alignment}
use Rattle.log4rs_encode.specs.declared.pattern.piece.Alignment.TheVariants.{Left, Right}
use Rattle.log4rs_encode.specs.declared.pattern.piece.Parameters.{Parameters}
use Rattle.log4rs_encode.specs.declared.styles.Style.{Style}
use Rattle.log4rs_encode.specs.Runs.{Run, text, style, join}

-- the printable characters of ASCII
abbrev pub is_printable : ℕ → Bool
is_printable c = nat_le 32 c && nat_lt c 127

-- one extended grapheme cluster, or a style
pub data Cell : Type 0 where
  cluster : List ℕ → Cell
  mark : Style → Cell

abbrev pub cells : List Run → List Cell
cells [] = []
cells (text t ∷ rs) = map cluster (graphemes true t) ++ cells rs
cells (style s ∷ rs) = mark s ∷ cells rs

abbrev pub runs_of_cells : List Cell → List Run
runs_of_cells [] = []
runs_of_cells (cluster g ∷ cs) = text g ∷ runs_of_cells cs
runs_of_cells (mark s ∷ cs) = style s ∷ runs_of_cells cs

-- how many clusters there are
abbrev pub width : List Cell → ℕ
width [] = 0
width (cluster g ∷ cs) = suc (width cs)
width (mark s ∷ cs) = width cs

-- the first n clusters, and every style in its place
abbrev pub keep_first : ℕ → List Cell → List Cell
keep_first n [] = []
keep_first n (mark s ∷ cs) = mark s ∷ keep_first n cs
keep_first zero (cluster g ∷ cs) = keep_first zero cs
keep_first (suc n) (cluster g ∷ cs) = cluster g ∷ keep_first n cs

-- the last n clusters, and every style in its place
abbrev pub keep_last : ℕ → List Cell → List Cell
keep_last n cs = reverse (keep_first n (reverse cs))

-- without the first clusters, and of the others the first ones, and every style in its place
abbrev pub cut : ℕ → ℕ → List Cell → List Cell
cut skip keep [] = []
cut skip keep (mark s ∷ cs) = mark s ∷ cut skip keep cs
cut zero zero (cluster g ∷ cs) = cut zero zero cs
cut zero (suc keep) (cluster g ∷ cs) = cluster g ∷ cut zero keep cs
cut (suc skip) keep (cluster g ∷ cs) = cut skip keep cs

abbrev pub truncated : Bool → Option ℕ → List Cell → List Cell
truncated right None cs = cs
truncated true (Some max) cs = keep_first max cs
truncated false (Some max) cs = keep_last max cs

-- the fill, as often as clusters are missing
abbrev pub padding : ℕ → Option ℕ → List Cell → List Cell
padding fill None cs = []
padding fill (Some min) cs = replicate (min - width cs) (cluster (encode_utf8 fill))

-- the padding after or before
abbrev pub padded : {A : Type 0} → Alignment → List A → List A → List A
padded Left pad cs = cs ++ pad
padded Right pad cs = pad ++ cs

abbrev pub fitted_cells : Parameters → List Cell → List Cell
fitted_cells ps cs =
    let kept = truncated ps.right_truncate ps.max_width cs in
    padded ps.align (padding ps.fill ps.min_width kept) kept

-- the runs, truncated to the maximum and padded to the minimum
unfoldable pub fit : Parameters → List Run → List Run
fit ps rs = join (runs_of_cells (fitted_cells ps (cells rs)))

-- with neither width the runs stay
abbrev pub has_width : Parameters → Bool
has_width ps = is_some ps.min_width || is_some ps.max_width

abbrev pub fitted : Parameters → List Run → List Run
fitted ps rs = if has_width ps then fit ps (join rs) else rs
