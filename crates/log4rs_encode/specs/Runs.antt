-- Styled text: texts, as their bytes, and the styles between them.
use Rattle.std.specs.Prelude.{ℕ, List, [], ◌∷◌, ◌++◌, length, ◌<◌, string_bytes, Bool, true}
use Rattle.std.specs.Prelude.{Option, Some, None}
use Rattle.std.specs.Str.{IsUtf8}
use Rattle.log4rs_encode.specs.declared.styles.Style.{Style}
use Rattle.log4rs_encode.specs.declared.runs.Run as source
use Rattle.log4rs_encode.specs.declared.runs.Run.TheVariants as source_runs
use Rattle.log4rs_encode.specs.declared.runs.Styling.{Styling}

pub data Run : Type 0 where
  text : List ℕ → Run
  style : Style → Run

-- a run before the others: an empty text vanishes, and neighboring texts are one
abbrev pub before : Run → List Run → List Run
before (text []) rs = rs
before (text (b ∷ bs)) (text t ∷ rs) = text ((b ∷ bs) ++ t) ∷ rs
before (text (b ∷ bs)) rs = text (b ∷ bs) ∷ rs
before (style s) rs = style s ∷ rs

-- the runs with neighboring texts joined and empty texts gone
abbrev pub join : List Run → List Run
join [] = []
join (r ∷ rs) = before r (join rs)

-- the texts alone
abbrev pub plain_bytes : List Run → List ℕ
plain_bytes [] = []
plain_bytes (text t ∷ rs) = t ++ plain_bytes rs
plain_bytes (style s ∷ rs) = plain_bytes rs

abbrev pub run_of : source.Run → Run
run_of (source_runs.Text t) = text t.now
run_of (source_runs.Style s) = style s

-- styles, each behind a text, and a text behind them all
abbrev pub runs_in : List Styling → List ℕ → List Run
runs_in [] last = before (text last) []
runs_in (s ∷ ss) last = before (text (string_bytes s.text)) (style s.style ∷ runs_in ss last)

-- the same, perhaps without the first text
abbrev pub runs_behind : Bool → List Styling → List ℕ → List Run
runs_behind true (s ∷ ss) last = style s.style ∷ runs_in ss last
runs_behind past ss last = runs_in ss last

-- the text of runs without a style
abbrev pub only_text : List Run → Option (List ℕ)
only_text [] = Some []
only_text (text t ∷ []) = Some t
only_text rs = None

abbrev pub BeginsNoText : List Run → Type 0
BeginsNoText (text t ∷ rs) = ⊥
BeginsNoText rs = Unit {0}

-- no text is empty, and no two texts are neighbors
abbrev pub IsJoined : List Run → Type 0
IsJoined [] = Unit {0}
IsJoined (text t ∷ rs) = (0 < length t) × BeginsNoText rs × IsJoined rs
IsJoined (style s ∷ rs) = IsJoined rs

-- each text is of whole characters
abbrev pub AreWhole : List Run → Type 0
AreWhole [] = Unit {0}
AreWhole (text t ∷ rs) = IsUtf8 t × AreWhole rs
AreWhole (style s ∷ rs) = AreWhole rs
