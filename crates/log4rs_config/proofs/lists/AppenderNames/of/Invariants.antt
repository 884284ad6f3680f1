use Rattle.std.proofs.Common.{◌≡◌, map, take, string_bytes}
use Rattle.log4rs_config.proofs.lists.AppenderNames.of.Given as goal

-- the names so far
abbrev pub invariant-loop-appender : goal.invariant-loop-appender
invariant-loop-appender g l = map string_bytes l.names.items ≡ map g.T.Named.name (take l.appender-index l.appenders)
