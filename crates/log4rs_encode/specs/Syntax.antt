-- The pieces of a pattern as plain data: texts are their UTF-8 bytes.
use Rattle.std.specs.Prelude.{ℕ, List, [], ◌∷◌}
use Rattle.log4rs_encode.specs.declared.pattern.piece.Parameters.{Parameters}

mutual
  pub data Piece : Type 0 where
    text : List ℕ → Piece
    argument : List ℕ → Lists → Parameters → Piece
    error : List ℕ → Piece

  -- the pieces of one text
  pub data Pieces : Type 0 where
    no_pieces : Pieces
    piece : Piece → Pieces → Pieces

  -- the argument lists of one formatter
  pub data Lists : Type 0 where
    no_lists : Lists
    list : Pieces → Lists → Lists

abbrev pub pieces_of : List Piece → Pieces
pieces_of [] = no_pieces
pieces_of (p ∷ ps) = piece p (pieces_of ps)

abbrev pub lists_of : List Pieces → Lists
lists_of [] = no_lists
lists_of (ps ∷ ls) = list ps (lists_of ls)
