use Rattle.std.proofs.Common.{string_bytes, arith}
use Rattle.log4rs_encode.proofs.Tables.{format_more}
use Rattle.log4rs_encode.proofs.pattern.make.written_format.Goals as goal

pub loop-piece-preserved : goal.loop-piece-preserved
loop-piece-preserved c =
    format_more (string_bytes c.loop-piece.format) (string_bytes c.push_format.new.format) c.args.pieces.now c.loop-piece.piece-index c.piece-item.result _
    (omega arith) c.piece-item.is c.in_ok-push_format.ensures c.loop-piece.invariant
