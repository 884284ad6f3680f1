use Rattle.std.proofs.Common.{◌∙◌}
use Rattle.std.proofs.lemmas.Result.{IfOk-weaker}
use Rattle.log4rs_base.specs.contracts.filter.ThresholdFilterFilter.TheImpl as threshold
use Rattle.log4rs_config.specs.Builder.{config_settings, config_admits}
use Rattle.log4rs_threads.proofs.Shaping.{delivered}
use Rattle.log4rs_threads.proofs.schedule.installed.Installed.deliveries.Goals as goal

pub returns-clause-places : goal.returns-clause-places
returns-clause-places c =
    let self = c.args.self.now in
    let config = self.core.config in
    let r = c.args.«record».now in
    let same = delivered (config_settings config) (config_admits (threshold.ghosts).answer config) self.shape.value r self.settings (self.admits r) in
    IfOk-weaker c.deliveries_by.result _ _ (λ places e. e ∙ same) c.deliveries_by.ensures.places
