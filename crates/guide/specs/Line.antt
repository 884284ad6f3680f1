-- The pieces of `{l} {t} - {m}{n}`, and what they say.
use Rattle.std.specs.Prelude.{ℕ, List, ◌++◌, codes, string_bytes}
use Rattle.log.specs.Level.{level_name}
use Rattle.log4rs_base.specs.declared.record.Context.{Context}
use Rattle.log4rs_base.specs.declared.record.Record.{Record}
use Rattle.log4rs_encode.specs.Rendering.{pattern_runs}
use Rattle.log4rs_encode.specs.Syntax.{Piece, text, argument, Pieces, no_pieces, piece, no_lists}
use Rattle.log4rs_encode.specs.Table.{chunks_of}
use Rattle.log4rs_encode.specs.Width.{default_parameters}
use Rattle.log4rs_encode.specs.Runs.{Run}

abbrev pub line_pattern : List ℕ
line_pattern = codes "{l} {t} - {m}{n}"

-- a formatter without parameters
abbrev pub field_piece : List ℕ → Piece
field_piece name = argument name no_lists default_parameters

abbrev pub line_pieces : Pieces
line_pieces =
    piece (field_piece (codes "l"))
    (piece (text (codes " "))
    (piece (field_piece (codes "t"))
    (piece (text (codes " - "))
    (piece (field_piece (codes "m"))
    (piece (field_piece (codes "n")) no_pieces)))))

abbrev pub line_runs : Record → Context → List Run
line_runs = pattern_runs (chunks_of line_pieces)

-- a record's line
abbrev pub line_text : Record → List ℕ
line_text r =
    level_name r.level ++ (codes " "
    ++ (string_bytes r.target ++ (codes " - "
    ++ (string_bytes r.message ++ codes "\n"))))
