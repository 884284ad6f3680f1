use Rattle.log4rs_encode.specs.Rendering.{rendered_all}
use Rattle.log4rs_encode.specs.Table.{chunks_of}
use Rattle.guide.specs.Line.{line_pieces}
use Rattle.guide.proofs.direct.line.line_renders.Goals as goal

pub returns : goal.returns
returns c logged context = c.joined_bytes.ensures (rendered_all logged context (chunks_of line_pieces))
