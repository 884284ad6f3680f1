use Rattle.std.proofs.Common.{◌≡◌, ◌≢◌, length, arith}
use Rattle.std.proofs.lemmas.Bool.Decides.{nat_tests}
use Rattle.log4rs_encode.specs.Table.{chunks_of}
use Rattle.log4rs_encode.specs.View.{pieces_view}
use Rattle.log4rs_encode.proofs.Tables.{piece_more, piece_end, group_of_others, group_of_one, group_alike, exactly}
use Rattle.log4rs_encode.proofs.Views.{view-argument}
use Rattle.log4rs_encode.proofs.pattern.make.+make.Goals as goal

pub chunk-returns-in_ok-formatted-in-Argument : goal.chunk-returns-in_ok-formatted-in-Argument
chunk-returns-in_ok-formatted-in-Argument t c = rw (c.in-Argument.is, view-argument c.in-Argument.formatter c.in-Argument.parameters) c.in_ok-formatted-in-Argument.ensures

pub chunks-loop-piece-preserved : goal.chunks-loop-piece-preserved
chunks-loop-piece-preserved t c =
    piece_more c.loop-piece.chunks.items c.add.new.chunks.items c.in_ok-chunk.field-0 c.args.pieces.now c.loop-piece.piece-index c.piece-item.result (chunks_of (pieces_view c.args.pieces.now))
    (omega arith) c.piece-item.is c.in_ok-chunk.ensures c.in_ok-add.ensures c.loop-piece.invariant

pub chunks-returns : goal.chunks-returns
chunks-returns t c = piece_end c.loop-piece.chunks.items c.args.pieces.now c.loop-piece.piece-index (chunks_of (pieces_view c.args.pieces.now)) (omega arith) c.loop-piece.invariant

pub grouped-returns-then-len-ne1 : goal.grouped-returns-then-len-ne1
grouped-returns-then-len-ne1 t c =
    let args = c.args.formatter.now.args.items in
    let many : length args ≢ 1 = grind (arith, nat_tests) in
    rw (group_of_others c.args.group args c.args.parameters many) (exactly _ _ c.in_ok-error.ensures)

pub grouped-returns : goal.grouped-returns
grouped-returns t c =
    let args = c.args.formatter.now.args.items in
    let one : length args ≡ 1 = grind (arith, nat_tests) in
    rw (group_of_one c.args.group args c.index.result.now c.args.parameters one c.index.ensures)
    (group_alike c.args.group c.in_ok-chunks.chunks (chunks_of (pieces_view c.index.result.now.items)) c.args.parameters (rw c.as_slice.ensures.value at c.in_ok-chunks.ensures))
