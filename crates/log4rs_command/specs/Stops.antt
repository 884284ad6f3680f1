-- Why a run ends before its time.
use Rattle.std.specs.Prelude.{List}
use Rattle.log4rs_config.specs.Faults.{Fault}
use Rattle.log4rs_config.specs.Refusal.{IsRefusal}
use Rattle.log4rs_command.specs.declared.stop.Stop.{Stop}
use Rattle.log4rs_settings.specs.declared.environment.ArgumentError.{ArgumentError}
use Rattle.log4rs_settings.specs.declared.environment.ArgumentError.TheVariants as given
use Rattle.log4rs_build.specs.declared.error.FileError.{FileError}
use Rattle.log4rs_build.specs.declared.error.FileError.TheVariants as file
use Rattle.log4rs_threads.specs.declared.workers.WorkersError.{WorkersError}
use Rattle.log4rs_threads.specs.declared.workers.WorkersError.TheVariants as workers
use Rattle.log4rs_command.specs.declared.stop.Stop.TheVariants.{Usage, NotText, Refused, File}
use Rattle.log4rs_command.specs.declared.stop.Stop.TheVariants.{Memory, Thread}
use Rattle.log4rs_command.specs.declared.arguments.ArgumentsError.{ArgumentsError}
use Rattle.log4rs_command.specs.declared.arguments.ArgumentsError.TheVariants as wrong

-- what ends a run whose arguments are refused
abbrev pub stop_of : ArgumentsError → Stop
stop_of wrong.Usage = Usage
stop_of wrong.Memory = Memory

-- what ends a run whose arguments are not read
abbrev pub unread : ArgumentError → Stop
unread (given.NotText at) = NotText at
unread given.Memory = Memory

-- what ends a run whose file is not loaded
abbrev pub unloaded : FileError → Stop
unloaded file.Memory = Memory
unloaded file.Thread = Thread
unloaded error = File error

-- what ends a run beside which no threads work
abbrev pub unworked : WorkersError → Stop
unworked workers.Memory = Memory
unworked workers.Thread = Thread

-- a configuration with these faults, or want of memory
abbrev pub RefusesConfiguration : List Fault → Stop → Type 0
RefusesConfiguration faults (Refused error) = IsRefusal faults error
RefusesConfiguration faults Memory = Unit {0}
RefusesConfiguration faults _ = ⊥
