-- Which stream a writer writes to.
use Rattle.std.specs.Prelude.{Bool, true, false}
use Rattle.log4rs_encode.specs.declared.writer.standard.StdWriter.{StdWriter}
use Rattle.log4rs_encode.specs.declared.writer.standard.StdWriter.TheVariants as streams
use Rattle.log4rs_encode.specs.declared.writer.standard.StdWriterLock.{StdWriterLock}
use Rattle.log4rs_encode.specs.declared.writer.standard.StdWriterLock.TheVariants as locks
use Rattle.log4rs_encode.specs.declared.writer.console.ConsoleWriter.{ConsoleWriter}

-- the stream of a writer that shows styles
abbrev pub stream_of : ConsoleWriter → StdWriter
stream_of w = w.writer.0

-- to standard output, and not to standard error
abbrev pub is_stdout : StdWriter → Bool
is_stdout (streams.Stdout s) = true
is_stdout (streams.Stderr s) = false

-- the same of a writer that was lent
abbrev pub is_lent_stdout : StdWriterLock → Bool
is_lent_stdout (locks.Stdout s) = true
is_lent_stdout (locks.Stderr s) = false
