-- How a pattern spells its pieces.
use Rattle.std.specs.Prelude.{◌≡◌, ◌⊎◌, ℕ, zero, suc, Bool, false, ◌==◌, List, [], ◌∷◌, drop}
use Rattle.std.specs.Prelude.{Option, Some, None, Result, Ok, Err, codes, encode_utf8_all}
use Rattle.std.specs.Prelude.{if◌then◌else◌, nat_lt}
use Rattle.std.specs.Bool.{MatchBool}
use Rattle.unicode.specs.Binary.{is_alphabetic}
use Rattle.log4rs_encode.specs.Syntax.{Piece, text, argument, error, Pieces, no_pieces, piece}
use Rattle.log4rs_encode.specs.Syntax.{Lists, no_lists, list}
use Rattle.log4rs_encode.specs.Scan.{open_brace, close_brace, open_paren, close_paren, is_plain}
use Rattle.log4rs_encode.specs.Scan.{is_alphanumeric, leading, after_leading, begins}
use Rattle.log4rs_encode.specs.Width.{parameters_of}
use Rattle.log4rs_encode.specs.declared.pattern.piece.Parameters.{Parameters}

-- A relation between the characters of a text, what stands at its front, and what that leaves.
abbrev pub Parse : Type 0 → Type 1
Parse X = List ℕ → X → List ℕ → Type 0

-- a text, and the characters after it
abbrev pub literal : ℕ → Piece
literal c = text (c ∷ [])

-- what may be said of a piece and of what it leaves
abbrev pub Front : Type 1
Front = Piece → List ℕ → Type 0

abbrev pub IsFirst : Piece × List ℕ → Front
IsFirst first p rest = (p ≡ first.0) × (rest ≡ first.1)

abbrev pub If : Bool → Front → Front → Front
If b P Q p rest = MatchBool b (P p rest) (Q p rest)

-- the longest run of plain characters
abbrev pub plain_run : List ℕ → Piece × List ℕ
plain_run cs = (text (encode_utf8_all (leading is_plain cs)), after_leading is_plain cs)

-- behind a bracket: twice it stands for itself, alone it is an error
abbrev pub bracket : ℕ → List ℕ → List ℕ → Piece × List ℕ
bracket c message cs = if begins c cs then (literal c, drop 1 cs) else (error message, cs)

-- behind a backslash: a special character stands for itself
abbrev pub escape : List ℕ → Piece × List ℕ
escape [] = (error (codes "unexpected '\\'"), [])
escape (c ∷ cs) = if is_plain c then (error (codes "unexpected '\\'"), c ∷ cs) else (literal c, cs)

-- the longest name: nothing, or one alphabetic character and then alphanumeric ones
abbrev pub front_name : List ℕ → List ℕ × List ℕ
front_name [] = ([], [])
front_name (c ∷ cs) =
    if is_alphabetic c
    then (encode_utf8_all (c ∷ leading is_alphanumeric cs), after_leading is_alphanumeric cs)
    else ([], c ∷ cs)

-- pieces, one after another, lead from the text to the rest
abbrev pub Leads : Parse Piece → Parse Pieces
Leads R cs no_pieces rest = cs ≡ rest
Leads R cs (piece p ps) rest = (mid : List ℕ) × R cs p mid × Leads R mid ps rest

-- nothing is spelled here
abbrev pub Ends : Parse Piece → List ℕ → Type 0
Ends R cs = (p : Piece) (rest : List ℕ) → R cs p rest → ⊥

-- argument lists, each between parentheses, for as long as a `(` follows
abbrev pub SpellsLists : Parse Piece → Parse Lists
SpellsLists R cs no_lists rest = (cs ≡ rest) × (begins open_paren rest ≡ false)
SpellsLists R cs (list ps ls) rest =
    (inner : List ℕ) × (mid : List ℕ)
    × (cs ≡ open_paren ∷ inner)
    × Leads R inner ps (close_paren ∷ mid)
    × SpellsLists R mid ls rest

-- no argument list may open here
abbrev pub SpellsNoLists : Parse Lists
SpellsNoLists cs ls rest = (ls ≡ no_lists) × (cs ≡ rest) × (begins open_paren rest ≡ false)

abbrev pub argument_of : List ℕ → Lists → Option Parameters → Piece
argument_of name ls None = error (codes "width too large")
argument_of name ls (Some parameters) = argument name ls parameters

-- behind the `{` of an argument: a name, argument lists, parameters, and the `}`
abbrev pub SpellsArgument : Parse Lists → Parse Piece
SpellsArgument L cs p rest =
    (ls : Lists) × (behind : List ℕ)
    × L (front_name cs).1 ls behind
    × ((parameters_of behind).1 ≡ close_brace ∷ rest)
    × (p ≡ argument_of (front_name cs).0 ls (parameters_of behind).0)

-- no argument begins behind the `{`, whatever it might be
abbrev pub SpellsNoArgument : Parse Lists → List ℕ → Type 0
SpellsNoArgument L cs = (p : Piece) (rest : List ℕ) → SpellsArgument L cs p rest → ⊥

-- behind a single `{`: an argument, or if none begins there an error that takes the whole rest
abbrev pub SpellsBrace : Parse Lists → Parse Piece
SpellsBrace L cs p rest =
    SpellsArgument L cs p rest
    ⊎ (SpellsNoArgument L cs × IsFirst (error (codes "expected '}'"), []) p rest)

abbrev pub Nothing : Front
Nothing p rest = ⊥

-- one piece, by the first character of the text; inside an argument list nothing begins with `)`
abbrev pub SpellsPiece : Bool → Parse Lists → Parse Piece
SpellsPiece inside L [] = Nothing
SpellsPiece inside L (c ∷ cs) =
    If (is_plain c) (IsFirst (plain_run (c ∷ cs)))
    (If (c == open_brace)
    (If (begins open_brace cs) (IsFirst (literal open_brace, drop 1 cs)) (SpellsBrace L cs))
    (If (c == close_brace) (IsFirst (bracket close_brace (codes "unmatched '}'") cs))
    (If (c == open_paren) (IsFirst (bracket open_paren (codes "unexpected '('") cs))
    (If (c == close_paren)
    (If inside Nothing (IsFirst (bracket close_paren (codes "unexpected ')'") cs)))
    (IsFirst (escape cs))))))

-- how many levels of argument lists may stand inside one another
abbrev pub max_nesting : ℕ
max_nesting = 64

-- argument lists in a text in which so many levels of them may still open
unfoldable pub ListsBelow : ℕ → Parse Lists
ListsBelow zero = SpellsNoLists
ListsBelow (suc levels) = SpellsLists (SpellsPiece (nat_lt levels max_nesting) (ListsBelow levels))

-- a piece of such a text: of the pattern itself where all levels may open, else of an argument list
abbrev pub Spells : ℕ → Parse Piece
Spells levels = SpellsPiece (nat_lt levels max_nesting) (ListsBelow levels)

-- the pieces of a pattern lead from it to its end
abbrev pub IsPattern : List ℕ → Pieces → Type 0
IsPattern cs ps = Leads (Spells max_nesting) cs ps []

-- One step of reading: at the end of the text there is nothing,
-- else the piece at the front of it, and after a refusal nothing follows.
abbrev pub GivesPiece : {S E : Type 0}
    → (S → Piece) → List ℕ → Option (Result S E) → List ℕ → Type 0
GivesPiece view cs None rest = (cs ≡ []) × (rest ≡ [])
GivesPiece view cs (Some (Ok p)) rest = Spells max_nesting cs (view p) rest
GivesPiece view cs (Some (Err e)) rest = rest ≡ []
