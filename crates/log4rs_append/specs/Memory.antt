-- The parts of an appender in memory.
use Rattle.log4rs_append.specs.declared.memory.MemoryAppender.{MemoryAppender}

-- what makes its texts
abbrev pub encoder_of : {E : Type 0} → MemoryAppender E → E
encoder_of a = a.encoder
