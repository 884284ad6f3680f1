use Rattle.std.proofs.Common.{◌∙◌, ap, not, map, ◌||◌, List, Bor}
use Rattle.std.specs.Str.{bytes_eq}
use Rattle.log4rs_base.specs.Text.{Text}
use Rattle.log4rs_config.specs.Settings.{is_among}
use Rattle.log4rs_config.proofs.Seen.{found, added}
use Rattle.log4rs_config.proofs.name.NameSet.insert.Goals as goal

pub returns-clause-new : goal.returns-clause-new
returns-clause-new c =
    c.in_ok-insert.ensures.added
    ∙ ap not (found c.self.inside.names.keys c.args.name.now ∙ ap (λ (names : List Text). is_among names c.args.name.now) c.self.view_is)

pub returns-clause-names : goal.returns-clause-names
returns-clause-names c other =
    ap (λ (keys : List (Bor Text)). is_among (map (λ k. k.now) keys) other) c.in_ok-insert.ensures.keys
    ∙ added c.self.inside.names.keys _ other
    ∙ ap (λ (names : List Text). bytes_eq other c.args.name.now || is_among names other) c.self.view_is
