use Rattle.std.proofs.Common.{◌≡◌, ◌++◌, drop, string_bytes}
use Rattle.log4rs_encode.specs.Table.{written_format}
use Rattle.log4rs_encode.specs.View.{pieces_view}
use Rattle.log4rs_encode.proofs.pattern.make.written_format.Given as goal

abbrev pub invariant-loop-piece : goal.invariant-loop-piece
invariant-loop-piece l = string_bytes l.format ++ written_format (pieces_view (drop l.piece-index l.pieces)) ≡ written_format (pieces_view l.fn.pieces)
