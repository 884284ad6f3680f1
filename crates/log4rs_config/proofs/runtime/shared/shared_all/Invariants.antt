use Rattle.std.proofs.Common.{◌≡◌, map, take, string_bytes}
use Rattle.log4rs_append.specs.Locks.{began_as}
use Rattle.log4rs_config.specs.Appender.{appender_of, name_of}
use Rattle.log4rs_config.proofs.runtime.shared.shared_all.Given as goal

-- the names and the locks so far
abbrev pub invariant-loop-appender : goal.invariant-loop-appender
invariant-loop-appender g l =
    (map (λ shared. string_bytes shared.name) l.made.items
    ≡ map (λ a. name_of a) (take l.appender-index l.appenders))
    × (map (λ shared. began_as shared.lock) l.made.items
    ≡ map (λ a. began_as (appender_of a)) (take l.appender-index l.appenders))
