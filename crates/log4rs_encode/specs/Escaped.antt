-- A text with each special character behind a backslash.
use Rattle.std.specs.Prelude.{ℕ, List, [], ◌∷◌, ◌++◌, Option, Some, None, if◌then◌else◌}
use Rattle.std.specs.Option.{option_map}
use Rattle.log4rs_encode.specs.Scan.{is_plain}
use Rattle.log4rs_encode.specs.Syntax.{text, Pieces, no_pieces, piece}

abbrev pub escaped : List ℕ → List ℕ
escaped [] = []
escaped (c ∷ cs) = if is_plain c then c ∷ escaped cs else (92 ∷ c ∷ escaped cs)

-- the text of the pieces, where they are texts alone
abbrev pub text_of : Pieces → Option (List ℕ)
text_of no_pieces = Some []
text_of (piece (text t) ps) = option_map (λ others. t ++ others) (text_of ps)
text_of (piece _ ps) = None
