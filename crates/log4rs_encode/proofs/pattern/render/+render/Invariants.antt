use Rattle.std.proofs.Common.{◌≡◌, ◌∷◌, ◌++◌, [], drop, string_bytes}
use Rattle.log4rs_encode.specs.ChunkView.{chunks_view}
use Rattle.log4rs_encode.specs.Rendering.{rendered_all}
use Rattle.log4rs_encode.specs.Runs.{text, join}
use Rattle.log4rs_encode.proofs.pattern.render.+render.Given as goal

abbrev pub invariant-render_all-loop-chunk : goal.invariant-render_all-loop-chunk
invariant-render_all-loop-chunk l =
    join ((l.out ++ text (string_bytes l.text) ∷ []) ++ rendered_all l.record l.context (chunks_view (drop l.chunk-index l.chunks))) ≡ join (l.fn.out ++ rendered_all l.fn.record l.fn.context (chunks_view l.fn.chunks))
