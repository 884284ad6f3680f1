use Rattle.std.proofs.Common.{◌≡◌, ◌<◌, ◌∙◌, arith, length, sym}
use Rattle.log4rs_config.specs.Beside.{OneStep}
use Rattle.log4rs_config.specs.Builder.{config_sinks}
use Rattle.log4rs_config.proofs.Beside.{all_worked, counted, one_more_of}
use Rattle.log4rs_config.proofs.logging.CoreOf.step_all.Goals as goal

pub loop-at-preserved : goal.loop-at-preserved
loop-at-preserved g c =
    let i = c.loop-at.invariant in
    let here = c.step-stepped.ensures in
    let many = counted g.A.Append.sink c.args.self.now.config in
    let within : c.loop-at.at < length (config_sinks g.A.Append.sink c.loop-at.self.config) = omega (arith, i.0.as_many, many, c.len-count.ensures, c.loop-at-test.true) in (
      one_more_of OneStep c.loop-at.results.items _ c.loop-at.at c.step-stepped.result _ _ _ c.push_reserved.ensures.items (sym i.3 ∙ c.loop-at.results.ok.0) within i.0 here.stepped,
      (λ r. here.routes.admits r ∙ i.1 r),
      here.routes.settings ∙ i.2,
      omega arith,
      omega arith,
    )

pub returns-clause-stepped : goal.returns-clause-stepped
returns-clause-stepped g c =
    let i = c.loop-at.invariant in
    let many = counted g.A.Append.sink c.args.self.now.config in
    all_worked OneStep _ _ _ (omega (arith, i.3, c.loop-at.results.ok, many, c.len-count.ensures, c.loop-at-test.false, c.loop-at.auto.at-end)) i.0
