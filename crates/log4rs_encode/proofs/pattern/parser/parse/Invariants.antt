use Rattle.std.specs.Str.{chars}
use Rattle.log4rs_encode.specs.Spelling.{Leads, Spells, max_nesting}
use Rattle.log4rs_encode.specs.View.{pieces_view}
use Rattle.log4rs_encode.proofs.pattern.parser.parse.Given as goal

abbrev pub invariant-loop-piece : goal.invariant-loop-piece
invariant-loop-piece l = Leads (Spells max_nesting) (chars l.pattern) (pieces_view l.pieces.items) l.piece-iterator
