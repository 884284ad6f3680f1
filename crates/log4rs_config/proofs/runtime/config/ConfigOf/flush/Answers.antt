use Rattle.std.proofs.Common.{◌∙◌}
use Rattle.log4rs_config.proofs.runtime.config.ConfigOf.flush.Goals as goal

pub loop-at-preserved : goal.loop-at-preserved
loop-at-preserved g c =
    let same = c.flush_at.ensures in
    let before = c.loop-at.invariant in
    (same.sinks ∙ before.0, (λ r. same.routes.admits r ∙ before.1 r), same.routes.settings ∙ before.2)
