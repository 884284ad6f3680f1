use Rattle.std.proofs.Common.{◌≡◌, ◌∙◌, sym, ap, arith, length, map, string_bytes, reverse, ℕ, Option}
use Rattle.std.specs.Prelude.{slice_index_or}
use Rattle.std.specs.Option.{option_map_or}
use Rattle.std.proofs.lemmas.List.{length-map}
use Rattle.log4rs_config.specs.Name.{path_of}
use Rattle.log4rs_config.proofs.Seeking.{none-governs-alone}
use Rattle.log4rs_config.proofs.routes.Routes.route_of.Goals as goal

pub returns-then-is_empty : goal.returns-then-is_empty
returns-then-is_empty c =
    let routes = c.args.self.now in
    let empty : length routes.entries.items ≡ 0 = grind (arith, c.is_empty.ensures, c.if-is_empty.true) in
    sym (ap (λ (at : Option ℕ). option_map_or (λ index. slice_index_or (map (λ e. e.route) routes.entries.items) index routes.root) at routes.root)
    (none-governs-alone (map (λ e. string_bytes e.name) routes.entries.items) (reverse (path_of c.args.target.now)) (length-map routes.entries.items (λ e. string_bytes e.name) ∙ empty)))
