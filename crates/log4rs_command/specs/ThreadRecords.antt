-- The records that threads append, and their texts.
use Rattle.std.specs.Prelude.{ℕ, List, ◌++◌, codes, string_bytes}
use Rattle.std.specs.Fmt.{decimal}
use Rattle.log4rs_base.specs.Text.{Text}
use Rattle.log4rs_base.specs.declared.record.Record.{Record}
use Rattle.log4rs_encode.specs.Syntax.{Piece, text, argument, Pieces, no_pieces, piece, no_lists}
use Rattle.log4rs_encode.specs.Width.{default_parameters}

-- the pattern of the journal
abbrev pub line_pattern : List ℕ
line_pattern = codes "{t} {m}"

-- a formatter without parameters
abbrev pub field_piece : List ℕ → Piece
field_piece name = argument name no_lists default_parameters

-- its pieces
abbrev pub line_pieces : Pieces
line_pieces =
    piece (field_piece (codes "t"))
    (piece (text (codes " ")) (piece (field_piece (codes "m")) no_pieces))

-- the text of a record
abbrev pub line_of : Record → Text
line_of logged = string_bytes logged.target ++ (codes " " ++ string_bytes logged.message)

-- the target of a thread's records
abbrev pub target_of : ℕ → Text
target_of thread = codes "t" ++ decimal thread
