use Rattle.std.proofs.Common.{drop}
use Rattle.log4rs_encode.specs.Table.{chunks_of}
use Rattle.log4rs_encode.specs.View.{pieces_view}
use Rattle.log4rs_encode.proofs.Tables.{PrintFirst}
use Rattle.log4rs_encode.proofs.pattern.make.+make.Given as goal

abbrev pub invariant-chunks-loop-piece : goal.invariant-chunks-loop-piece
invariant-chunks-loop-piece l = PrintFirst l.chunks.items (drop l.piece-index l.pieces) (chunks_of (pieces_view l.fn.pieces))
