use Rattle.std.specs.Str.{chars}
use Rattle.log4rs_encode.specs.Spelling.{Spells, max_nesting}
use Rattle.log4rs_encode.specs.View.{piece_view}
use Rattle.log4rs_encode.proofs.Steps.{pieces_more}
use Rattle.log4rs_encode.proofs.pattern.parser.parse.Goals as goal

pub loop-piece-preserved : goal.loop-piece-preserved
loop-piece-preserved c =
    let next : Spells max_nesting c.loop-piece.piece-iterator (piece_view c.in_ok-piece.field-0) c.next.new.self = rw c.in_ok-piece.was at c.in-Some.ensures.steps in
    rw c.in_ok-push.ensures.items (pieces_more (Spells max_nesting) (chars c.args.pattern.now) _ _ c.loop-piece.pieces.items c.in_ok-piece.field-0 c.loop-piece.invariant next)
