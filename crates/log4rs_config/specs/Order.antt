-- The order of names: by their lists of components, component by component,
-- each by its bytes, a beginning first.
use Rattle.std.specs.Prelude.{◌≡◌, ℕ, ◌<◌, List, slice_get, Some}
use Rattle.std.specs.declared.cmp.Ordering.{Ordering}
use Rattle.std.specs.declared.cmp.Ordering.TheVariants.{Less}
use Rattle.std.specs.Cmp.Lexicographic.{slice_cmp}
use Rattle.std.specs.Ordering.{nat_cmp}
use Rattle.log4rs_base.specs.Text.{Text}

-- of two lists of components
abbrev pub parts_cmp : List Text → List Text → Ordering
parts_cmp a b = slice_cmp (slice_cmp nat_cmp) a b

-- the lists of components rise
abbrev pub Rise : List (List Text) → Type 0
Rise keys =
    (i j : ℕ) (a b : List Text) → i < j
    → slice_get keys i ≡ Some a
    → slice_get keys j ≡ Some b
    → parts_cmp a b ≡ Less
