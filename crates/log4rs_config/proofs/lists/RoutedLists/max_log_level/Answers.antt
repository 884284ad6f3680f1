use Rattle.std.proofs.Common.{◌≤◌, List, [], All, subst}
use Rattle.log.specs.Level.{filter_rank}
use Rattle.log4rs_config.specs.Levels.{all_levels}
use Rattle.log4rs_config.specs.Name.{path_of}
use Rattle.log4rs_config.specs.Settings.{Settings, LoggerSetting, settings_of}
use Rattle.log4rs_config.proofs.Governing.{below-limit}
use Rattle.log4rs_config.proofs.lists.RoutedLists.max_log_level.Goals as goal

pub returns-clause-nothing_above : goal.returns-clause-nothing_above
returns-clause-nothing_above c target =
    let limit = c.greatest_level.result in
    below-limit c.args.self.now limit (path_of target)
    (subst (λ (s : Settings). All (λ level. filter_rank level ≤ filter_rank limit) (all_levels s)) c.self.view_is
    (subst (λ (loggers : List LoggerSetting). All (λ level. filter_rank level ≤ filter_rank limit) (all_levels (settings_of [] c.self.inside.root loggers))) c.deref.ensures.value
    c.greatest_level.ensures.greatest))
