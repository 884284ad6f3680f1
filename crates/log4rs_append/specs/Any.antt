-- Appenders of any kind in contracts.
use Rattle.log4rs_rolling.specs.declared.store.Store as Store
use Rattle.log4rs_rolling.specs.declared.policy.Keep as Keep
use Rattle.log4rs_append.specs.declared.any.AppenderOf.{AppenderOf}
use Rattle.log4rs_append.specs.declared.any.AppenderOf.TheVariants.{Console, File, Rolling, Memory}
use Rattle.log4rs_append.specs.declared.any.AppenderOf.TheVariants.{Custom}
use Rattle.log4rs_append.specs.declared.console.ConsoleAppender.{ConsoleAppender}
use Rattle.log4rs_append.specs.declared.file.FileAppender.{FileAppender}
use Rattle.log4rs_append.specs.declared.memory.MemoryAppender.{MemoryAppender}
use Rattle.log4rs_append.specs.declared.rolling_file.RollingFileAppender.{RollingFileAppender}

-- the sink of an appender, by the sinks of each kind
abbrev pub told_of : {S P E C X : Type 0} {store : Store.Ghosts S} {keep : Keep.Ghosts P S}
    → (ConsoleAppender E → X) → (FileAppender S E store → X) → (RollingFileAppender S P E store keep → X)
    → (MemoryAppender E → X) → (C → X) → AppenderOf S P E C store keep → X
told_of console file rolling memory custom (Console c) = console c
told_of console file rolling memory custom (File f) = file f
told_of console file rolling memory custom (Rolling r) = rolling r
told_of console file rolling memory custom (Memory m) = memory m
told_of console file rolling memory custom (Custom c) = custom c
