-- The plain data that a piece stands for.
use Rattle.std.specs.Prelude.{ℕ, List, map, string_bytes, Vec}
use Rattle.std.specs.declared.alloc.Global.{Global}
use Rattle.log4rs_encode.specs.Syntax.{Piece, text, argument, error, Pieces, pieces_of, Lists}
use Rattle.log4rs_encode.specs.Syntax.{lists_of}
use Rattle.log4rs_encode.specs.declared.pattern.piece.Piece.{fold-Piece}
use Rattle.log4rs_encode.specs.declared.pattern.piece.Piece as source
use Rattle.log4rs_encode.specs.declared.pattern.piece.Piece.TheOpen.{Piece-F, Formatter-F}

-- one level, with each piece inside already seen as its data,
-- and a formatter as its name and its lists
abbrev pub piece_step : Piece-F Piece (List ℕ × Lists) → Piece
piece_step (Piece-F.Text t) = text t.now
piece_step (Piece-F.Argument formatter parameters) = argument formatter.0 formatter.1 parameters
piece_step (Piece-F.Error message) = error (string_bytes message)

abbrev pub formatter_step : Formatter-F Piece (List ℕ × Lists) → List ℕ × Lists
formatter_step f = (f.name.now, lists_of (map (λ l. pieces_of l.items) f.args.items))

abbrev pub piece_view : source.Piece → Piece
piece_view = fold-Piece Piece (List ℕ × Lists) piece_step formatter_step

abbrev pub pieces_view : List source.Piece → Pieces
pieces_view ps = pieces_of (map piece_view ps)

abbrev pub lists_view : List (Vec source.Piece Global) → Lists
lists_view ls = lists_of (map (λ l. pieces_view l.items) ls)
