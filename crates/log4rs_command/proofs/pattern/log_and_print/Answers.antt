use Rattle.std.proofs.Common.{◌∙◌}
use Rattle.log4rs_command.specs.Arguments.{asked_settings}
use Rattle.log4rs_command.proofs.RunsLemmas.{prints_of}
use Rattle.log4rs_command.proofs.ToCoreLemmas.{lines_logged}
use Rattle.log4rs_command.proofs.pattern.log_and_print.Goals as goal

pub returns : goal.returns
returns g c =
    let config = c.in_ok-config.ensures in
    let core = c.in_ok-core.ensures in
    let logs = c.in_ok-seen.ensures in
    prints_of _ _ _ c.args.pattern.now (asked_settings c.args.settings.now) _ _ _ _ config.sinks.0 logs.0 _ _
    config.faultless (core.settings ∙ config.settings) (λ r. core.admits r ∙ config.admits r)
    (core.sinks ∙ config.sinks.1) config.sinks.2 logs.1 (lines_logged _ _ _ logs.0 _ _ _ logs.2) c.all_well.ensures c.in_ok-print_texts.ensures
