-- What a call of several operations costs, and why it fails.
use Rattle.std.specs.Prelude.{◌≡◌, ◌≤◌, ◌<◌, ◌+◌, ℕ, List, length}
use Rattle.std.specs.Prelude.{IsTrue, IsSome, Result, IfErr}
use Rattle.log4rs_base.specs.declared.error.LogError.{LogError}
use Rattle.log4rs_base.specs.declared.error.LogError.TheVariants.{Store}
use Rattle.log4rs_rolling.specs.Disk.{Disk, Grew}

-- at most n operations are made
pub record Makes (n : ℕ) (old new : Disk) : Type 0 where
  pub tells : new.tells ≡ old.tells
  pub operations : IsTrue old.tells → new.operations ≤ old.operations + n
  pub denials : IsTrue old.tells → old.denials ≤ new.denials

-- the error is `Store` only if the store denied an operation
abbrev pub Caused : {T : Type 0} → Result T LogError → Disk → Disk → Type 0
Caused result old new =
    IsTrue old.tells → IfErr result (λ e. e ≡ Store → Grew old.denials new.denials)

-- at most n operations are made, and the error is `Store` only if the store denied one of them
pub record Costs {T : Type 0} (n : ℕ) (result : Result T LogError) (old new : Disk) : Type 0 where
  pub made : Makes n old new
  pub cause : Caused result old new

-- so many of these bytes were taken: at most one operation for each byte; and where a file is open,
-- fewer than all only if the store denied one
pub record CostsToWrite (bytes : List ℕ) (taken : ℕ) (old new : Disk) : Type 0 where
  pub made : Makes (length bytes) old new
  pub cause : IsTrue old.tells → IsSome old.opened → taken < length bytes
      → Grew old.denials new.denials
