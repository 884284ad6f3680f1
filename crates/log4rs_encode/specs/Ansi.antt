-- The bytes by which a terminal shows styled text.
use Rattle.std.specs.Prelude.{ℕ, List, [], ◌∷◌, ◌++◌, Bool, true, false, Option, Some, None, codes}
use Rattle.log4rs_encode.specs.declared.styles.Color.{Color}
use Rattle.log4rs_encode.specs.declared.styles.Color.TheVariants.{Black, Red, Green, Yellow, Blue}
use Rattle.log4rs_encode.specs.declared.styles.Color.TheVariants.{Magenta, Cyan, White}
use Rattle.log4rs_encode.specs.declared.styles.Style.{Style}
use Rattle.log4rs_encode.specs.Runs.{Run, text, style}

abbrev pub color_digit : Color → ℕ
color_digit Black = 48
color_digit Red = 49
color_digit Green = 50
color_digit Yellow = 51
color_digit Blue = 52
color_digit Magenta = 53
color_digit Cyan = 54
color_digit White = 55

-- `;3` and the digit for a text, `;4` for a background
abbrev pub color_code : ℕ → Option Color → List ℕ
color_code kind None = []
color_code kind (Some c) = 59 ∷ kind ∷ color_digit c ∷ []

abbrev pub intensity_code : Option Bool → List ℕ
intensity_code None = []
intensity_code (Some true) = codes ";1"
intensity_code (Some false) = codes ";22"

-- ESC `[0`, the codes of what is set, and `m`
abbrev pub style_bytes : Style → List ℕ
style_bytes s =
    27 ∷ codes "[0" ++ color_code 51 s.text ++ color_code 52 s.background
    ++ intensity_code s.intense ++ codes "m"

abbrev pub ansi_bytes : List Run → List ℕ
ansi_bytes [] = []
ansi_bytes (text t ∷ rs) = t ++ ansi_bytes rs
ansi_bytes (style s ∷ rs) = style_bytes s ++ ansi_bytes rs
