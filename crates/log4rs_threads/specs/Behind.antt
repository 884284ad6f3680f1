-- What stands behind a logger's lock.
use Rattle.std.specs.Prelude.{List}
use Rattle.std.specs.Arc.{arc_value}
use Rattle.log4rs_append.specs.declared.locked.Locked.{Locked}
use Rattle.log4rs_config.specs.declared.runtime.appender.Filtered.{Filtered}
use Rattle.log4rs_threads.specs.declared.current.CurrentOf.{CurrentOf}
use Rattle.log4rs_threads.specs.declared.current.HeldOf.{HeldOf}

-- its appenders, filters and handler
abbrev pub held_by : {A F H : Type 0} → CurrentOf A F H → HeldOf A F H
held_by current = arc_value current.held

-- its appenders behind their filters, each at its place
abbrev pub held_appenders : {A F H : Type 0} → CurrentOf A F H → List (Filtered (Locked A) F)
held_appenders current = (held_by current).appenders.items
