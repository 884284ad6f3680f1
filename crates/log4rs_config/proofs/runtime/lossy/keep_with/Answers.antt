use Rattle.std.proofs.Common.{◌∙◌, ap, map, filter, List, []}
use Rattle.log4rs_base.specs.Text.{Text}
use Rattle.log4rs_config.specs.Lossy.{firsts}
use Rattle.log4rs_config.specs.Name.{is_valid}
use Rattle.log4rs_config.specs.Settings.{RootSetting, LoggerSetting, settings_of, is_among}
use Rattle.log4rs_config.proofs.Seen.{same_known, same_filter}
use Rattle.log4rs_config.proofs.runtime.lossy.keep_with.Goals as goal

pub returns : goal.returns
returns g c =
    let names = map g.T.Named.name c.args.appenders.now in
    let same = c.in_ok-known.ensures in
    let left = filter (λ (l : LoggerSetting). is_valid l.name) (firsts (λ (l : LoggerSetting). l.name) [] c.args.loggers.items) in
    ap (λ (root : RootSetting). settings_of names root c.in_ok-loggers.loggers.items)
    (c.keep_known.ensures ∙ ap (λ (known : List Text). record { level = c.args.root.level; appenders = known }) (same_filter c.in_ok-known.known names c.args.root.appenders same))
    ∙ ap (λ (loggers : List LoggerSetting). settings_of names (record { level = c.args.root.level; appenders = filter (is_among names) c.args.root.appenders }) loggers)
    (c.in_ok-loggers.ensures ∙ ap (λ (f : LoggerSetting → LoggerSetting). map f left) (same_known c.in_ok-known.known names same))
