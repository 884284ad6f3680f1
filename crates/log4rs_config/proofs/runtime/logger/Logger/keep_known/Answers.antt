use Rattle.std.proofs.Common.{rules, ◌∙◌, ap, map, List, String, Global, string_bytes}
use Rattle.std.proofs.lemmas.Fn.{filter_same}
use Rattle.log4rs_base.specs.Text.{Text}
use Rattle.log4rs_config.specs.Settings.{is_among}
use Rattle.log4rs_config.specs.Lossy.{with_known}
use Rattle.log4rs_config.proofs.Keeping.{filter-map}
use Rattle.log4rs_config.proofs.runtime.logger.Logger.keep_known.Goals as goal

pub returns : goal.returns
returns c =
    ap (λ (names : List Text). record { name = string_bytes c.self.inside.name; level = c.self.inside.level; appenders = names; additive = c.self.inside.additive })
    (ap (map (λ (s : String Global). string_bytes s)) (filter_same _ (λ (s : String Global). is_among c.args.known.now (string_bytes s)) _ (λ x b f' k. search rules) _ _ c.retain.ensures.filtered)
    ∙ filter-map (λ (s : String Global). string_bytes s) (is_among c.args.known.now) c.self.inside.appenders.items)
    ∙ ap (with_known c.args.known.now) c.self.view_is
