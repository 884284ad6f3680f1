use Rattle.std.proofs.Common.{◌≡◌, Some, ap, ◌∙◌}
use Rattle.std.specs.Str.{chars}
use Rattle.log4rs_encode.specs.Rendering.{pattern_runs}
use Rattle.log4rs_encode.specs.Syntax.{Pieces}
use Rattle.log4rs_encode.specs.Table.{chunks_of}
use Rattle.guide.specs.Line.{line_pieces}
use Rattle.guide.proofs.direct.two.encoder.Goals as goal

pub returns : goal.returns
unfolding chars
returns g c =
    let renders = c.in_ok-pattern.ensures in
    let same : renders.pieces ≡ line_pieces = c.one_pattern.ensures.one _ _ _ renders.spelled c.line_is_spelled.ensures in
    renders.renders ∙ ap (λ (ps : Pieces). Some (pattern_runs (chunks_of ps))) same
