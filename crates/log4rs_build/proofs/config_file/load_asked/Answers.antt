use Rattle.std.proofs.Common.{ap, ◌∙◌}
use Rattle.log4rs_plans.specs.Background.{any_in_background}
use Rattle.log4rs_plans.specs.Plans.{Plans}
use Rattle.log4rs_build.proofs.config_file.load_asked.Goals as goal

pub returns-clause-rolls : goal.returns-clause-rolls
returns-clause-rolls g c = c.rolls_in_background-rolls_in_background.ensures ∙ ap (λ (p : Plans). any_in_background p.appenders) c.in_ok-plans.ensures.plans
