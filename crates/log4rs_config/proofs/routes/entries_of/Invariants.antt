use Rattle.std.proofs.Common.{◌≡◌, map, take, string_bytes}
use Rattle.log4rs_config.specs.Name.{components}
use Rattle.log4rs_config.specs.Walk.{walk, chained, name_at}
use Rattle.log4rs_config.proofs.routes.entries_of.Given as goal

-- the entries of the loggers so far
abbrev pub invariant-loop-one : goal.invariant-loop-one
invariant-loop-one g l =
    (map (λ e. string_bytes e.name) l.entries.items ≡ map (λ n. n.logger.now.name) (take l.one-index l.loggers))
    × (map (λ e. e.place) l.entries.items ≡ map (λ n. n.place) (take l.one-index l.loggers))
    × (map (λ e. e.route.level) l.entries.items ≡ map (λ n. n.logger.now.level) (take l.one-index l.loggers))
    × (map (λ e. e.route.places.items) l.entries.items
    ≡ map (λ n. walk (chained (map g.A.Named.name l.appenders) (map (λ n. n.logger.now) l.loggers)) (name_at (map (λ n. n.logger.now.name) l.loggers)) l.list (components n.logger.now.name)) (take l.one-index l.loggers))
