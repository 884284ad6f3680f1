-- Errors of building a configuration.
use Rattle.std.specs.Prelude.{◌≡◌, ◌≢◌, List, []}
use Rattle.log4rs_config.specs.declared.runtime.error.BuildError.{BuildError}
use Rattle.log4rs_config.specs.declared.runtime.error.BuildError.TheVariants.{Errors, Memory}
use Rattle.log4rs_config.specs.Faults.{Fault}

-- these faults, at least one, or a failed allocation
abbrev pub IsRefusal : List Fault → BuildError → Type 0
IsRefusal faults (Errors errors) = (errors ≡ faults) × (faults ≢ [])
IsRefusal faults Memory = Unit {0}
