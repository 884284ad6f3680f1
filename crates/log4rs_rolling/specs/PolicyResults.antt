-- What a policy does.
use Rattle.std.specs.Prelude.{◌≡◌, ℕ, List, [], Bool, true, false, Option, Some, None, Result}
use Rattle.log4rs_rolling.specs.Costs.{Makes}
use Rattle.log4rs_rolling.specs.Disk.{Disk, Calls, SameOpen}
use Rattle.log4rs_base.specs.declared.error.LogError.{LogError}
use Rattle.log4rs_rolling.specs.Keeping.{Keeping, RolledAs}

-- if the trigger fired, a rotation, and otherwise nothing: then no operation was made either,
-- nothing was refused, and an open file stays open
abbrev pub Processed : Keeping → Keeping → Option Bool
    → List ℕ → Result Unit LogError → Disk → Disk → Type 0
Processed before now (Some true) path result old new = RolledAs before now path result old new
Processed before now (Some false) path result old new =
    (now ≡ before)
    × Calls old new (λ added. added ≡ [])
    × (new.refusals ≡ old.refusals)
    × SameOpen old new
    × Makes 0 old new
Processed before now None path result old new =
    (now ≡ before)
    × Calls old new (λ added. added ≡ [])
    × (new.refusals ≡ old.refusals)
    × SameOpen old new
    × Makes 0 old new
