use Rattle.std.proofs.Common.{◌≡◌, Some, ap, ◌∙◌}
use Rattle.log4rs_encode.specs.Rendering.{pattern_runs, rendered_all}
use Rattle.log4rs_encode.specs.Syntax.{Pieces}
use Rattle.log4rs_encode.specs.Table.{chunks_of}
use Rattle.log4rs_encode.specs.Runs.{plain_bytes}
use Rattle.log4rs_command.specs.ThreadRecords.{line_pieces}
use Rattle.log4rs_command.proofs.ThreadRecordLemmas.{printed}
use Rattle.log4rs_command.proofs.thread_records.texts_are_lines.Goals as goal

pub returns : goal.returns
returns c logged context text is =
    let same : is.renders.pieces ≡ line_pieces = c.one_pattern.ensures.one _ _ _ is.renders.spelled c.line_is_spelled.ensures in
    let told : Some is.runs ≡ Some (pattern_runs (chunks_of line_pieces)) = is.renders.renders ∙ ap (λ (ps : Pieces). Some (pattern_runs (chunks_of ps))) same in
    let runs : is.runs ≡ pattern_runs (chunks_of line_pieces) = cc in
    is.plain ∙ ap (λ rendering. plain_bytes (rendering logged context)) runs
    ∙ c.joined_bytes.ensures (rendered_all logged context (chunks_of line_pieces)) ∙ printed logged context
