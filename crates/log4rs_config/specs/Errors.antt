-- The faults that a configuration's errors tell of.
use Rattle.std.specs.Prelude.{List, map, string_bytes}
use Rattle.log4rs_config.specs.declared.runtime.error.ConfigError.{ConfigError}
use Rattle.log4rs_config.specs.declared.runtime.error.ConfigError.TheVariants.{DuplicateAppenderName}
use Rattle.log4rs_config.specs.declared.runtime.error.ConfigError.TheVariants.{NonexistentAppender}
use Rattle.log4rs_config.specs.declared.runtime.error.ConfigError.TheVariants.{DuplicateLoggerName}
use Rattle.log4rs_config.specs.declared.runtime.error.ConfigError.TheVariants.{InvalidLoggerName}
use Rattle.log4rs_config.specs.Faults.{Fault, RepeatedAppender, UnknownAppender, RepeatedLogger}
use Rattle.log4rs_config.specs.Faults.{InvalidLogger}

-- the fault of an error
abbrev pub fault_of : ConfigError → Fault
fault_of (DuplicateAppenderName name) = RepeatedAppender (string_bytes name)
fault_of (NonexistentAppender name) = UnknownAppender (string_bytes name)
fault_of (DuplicateLoggerName name) = RepeatedLogger (string_bytes name)
fault_of (InvalidLoggerName name) = InvalidLogger (string_bytes name)

abbrev pub faults_of : List ConfigError → List Fault
faults_of errors = map fault_of errors
