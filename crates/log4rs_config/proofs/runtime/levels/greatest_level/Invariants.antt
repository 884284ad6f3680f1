use Rattle.std.proofs.Common.{◌≤◌, ◌∷◌, All, Contains, map, take}
use Rattle.log.specs.Level.{filter_rank}
use Rattle.log4rs_config.proofs.runtime.levels.greatest_level.Given as goal

-- the greatest level so far
abbrev pub invariant-loop-logger : goal.invariant-loop-logger
invariant-loop-logger l =
    All (λ level. filter_rank level ≤ filter_rank l.greatest) (l.root.level ∷ map (λ logger. logger.level) (take l.logger-index l.loggers))
    × Contains (l.root.level ∷ map (λ logger. logger.level) (take l.logger-index l.loggers)) l.greatest
