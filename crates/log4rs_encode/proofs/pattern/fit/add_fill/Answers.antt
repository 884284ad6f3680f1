use Rattle.std.proofs.Common.{ap, append_assoc, replicate, string_bytes, ◌++◌, ◌∙◌, encode_utf8}
use Rattle.std.specs.List.{concat}
use Rattle.log4rs_encode.proofs.Cells.{filled_more}
use Rattle.log4rs_encode.proofs.pattern.fit.add_fill.Goals as goal

pub loop-done-preserved : goal.loop-done-preserved
loop-done-preserved c =
    let before = string_bytes c.reserve.new.self in
    c.in_ok-push.ensures.bytes ∙ ap (λ w. w ++ encode_utf8 c.args.fill) c.loop-done.invariant
    ∙ append_assoc before (concat (replicate c.loop-done._done (encode_utf8 c.args.fill))) (encode_utf8 c.args.fill)
    ∙ ap (λ w. before ++ w) (filled_more c.loop-done._done (encode_utf8 c.args.fill))
