use Rattle.std.proofs.Common.{◌≡◌, ◌<◌, take, length, All}
use Rattle.log4rs_config.specs.Builder.{config_admits, config_settings}
use Rattle.log4rs_config.specs.Routing.{admitted}
use Rattle.log4rs_threads.proofs.schedule.installed.admitted_by.Given as goal

-- the admitted places of those so far
abbrev pub invariant-loop-at : goal.invariant-loop-at
invariant-loop-at g l =
    (l.found.items ≡ admitted (config_admits g.F.Filter.answer l.core.config l.«record») (take l.at-index l.places))
    × All (λ at. at < length (config_settings l.core.config).appenders) l.found.items
