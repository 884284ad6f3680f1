-- Why nothing was published.
use Rattle.std.specs.Prelude.{◌≡◌, ◌≢◌, ℕ, ◌+◌, ◌^◌, List, []}
use Rattle.log4rs_config.specs.Faults.{Fault}
use Rattle.log4rs_threads.specs.declared.error.SwapError.{SwapError}
use Rattle.log4rs_threads.specs.declared.error.SwapError.TheVariants.{Errors, Full, Memory}

-- these faults, of which there is at least one; or none, and no swap more can be counted;
-- or want of memory
abbrev pub IsSwapRefusal : List Fault → ℕ → SwapError → Type 0
IsSwapRefusal faults swaps (Errors errors) = (errors ≡ faults) × (faults ≢ [])
IsSwapRefusal faults swaps Full = (faults ≡ []) × (swaps + 1 ≡ 2 ^ 64)
IsSwapRefusal faults swaps Memory = Unit {0}
