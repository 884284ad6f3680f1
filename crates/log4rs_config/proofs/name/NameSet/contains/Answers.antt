use Rattle.std.proofs.Common.{◌∙◌, ap, List}
use Rattle.log4rs_base.specs.Text.{Text}
use Rattle.log4rs_config.specs.Settings.{is_among}
use Rattle.log4rs_config.proofs.Seen.{found}
use Rattle.log4rs_config.proofs.name.NameSet.contains.Goals as goal

pub returns : goal.returns
returns c =
    c.contains.ensures ∙ found c.self.inside.names.keys c.args.name.now ∙ ap (λ (names : List Text). is_among names c.args.name.now) c.self.view_is
