use Rattle.std.proofs.Common.{◌≡◌, ◌<◌, ◌∙◌, arith, length, sym}
use Rattle.log4rs_config.specs.Beside.{OneDrive}
use Rattle.log4rs_config.specs.Builder.{config_sinks}
use Rattle.log4rs_config.proofs.Beside.{all_finished, all_worked, counted, one_more_of}
use Rattle.log4rs_config.proofs.logging.CoreOf.drive_all.Goals as goal

pub loop-at-preserved : goal.loop-at-preserved
loop-at-preserved g c =
    let i = c.loop-at.invariant in
    let here = c.drive-driven.ensures in
    let many = counted g.A.Append.sink c.args.self.now.config in
    let within : c.loop-at.at < length (config_sinks g.A.Append.sink c.loop-at.self.config) = omega (arith, i.0.as_many, many, c.len-count.ensures, c.loop-at-test.true) in (
      one_more_of OneDrive c.loop-at.results.items _ c.loop-at.at c.drive-driven.result _ _ _ c.push_reserved.ensures.items (sym i.3 ∙ c.loop-at.results.ok.0) within i.0 here.driven,
      (λ r. here.routes.admits r ∙ i.1 r),
      here.routes.settings ∙ i.2,
      omega arith,
      omega arith,
    )

pub returns-clause-driven : goal.returns-clause-driven
returns-clause-driven g c =
    let i = c.loop-at.invariant in
    let many = counted g.A.Append.sink c.args.self.now.config in
    all_worked OneDrive _ _ _ (omega (arith, i.3, c.loop-at.results.ok, many, c.len-count.ensures, c.loop-at-test.false, c.loop-at.auto.at-end)) i.0

pub returns-clause-finished : goal.returns-clause-finished
returns-clause-finished g c = all_finished _ _ _ (returns-clause-driven g c)
