use Rattle.std.proofs.Common.{◌≡◌, ◌∙◌, rules}
use Rattle.log4rs_rolling.specs.Roller.{kept_by}
use Rattle.log4rs_restarts.specs.RollingSettings.{keeping_of}
use Rattle.log4rs_restarts.proofs.Adding.{kept_fresh}
use Rattle.log4rs_restarts.proofs.rolling_settings.rolled.Goals as goal

pub returns-clause-keeping : goal.returns-clause-keeping
returns-clause-keeping c =
    let kept : kept_by c.in_ok-roller.roller ≡ keeping_of c.args.settings.now = search rules in
    kept_fresh c.in_ok-roller.roller c.in_ok-roller.ensures.no_job c.in_ok-roller.ensures.unasked ∙ kept
