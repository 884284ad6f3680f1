use Rattle.std.proofs.Common.{◌≡◌, All, Some, map, take, slice_get}
use Rattle.log4rs_config.proofs.routes.with_places.Given as goal

-- the loggers so far, each with its place
abbrev pub invariant-loop-place : goal.invariant-loop-place
invariant-loop-place l = (map (λ n. n.logger.now) l.all.items ≡ take l.place l.loggers) × All (λ n. slice_get l.loggers n.place ≡ Some n.logger.now) l.all.items
