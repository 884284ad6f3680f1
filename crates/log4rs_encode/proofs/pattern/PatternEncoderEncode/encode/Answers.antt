use Rattle.std.proofs.Common.{◌≡◌, List, [], ◌++◌, sym, ap, ◌∙◌}
use Rattle.log4rs_encode.specs.Runs.{Run, join}
use Rattle.log4rs_encode.specs.Rendering.{pattern_runs, rendered_all}
use Rattle.log4rs_encode.specs.ChunkView.{chunks_view}
use Rattle.log4rs_encode.proofs.Joined.{join_back}
use Rattle.log4rs_encode.proofs.pattern.PatternEncoderEncode.encode.Goals as goal

pub returns-then-is_empty-clause-ok : goal.returns-then-is_empty-clause-ok
returns-then-is_empty-clause-ok c =
    let chunks = chunks_view c.args.self.now.chunks.items in
    let runs = pattern_runs chunks c.args.record.now c.args.context.now in
    let none : c.args.out.now ≡ [] = c.is_empty.ensures.0 c.if-is_empty.true in
    c.in_ok-encode_first.ensures.ok ∙ sym (ap (λ (x : List Run). join (x ++ runs)) none ∙ join_back [] (rendered_all c.args.record.now c.args.context.now chunks))
