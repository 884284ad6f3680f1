-- Locks that are shared.
use Rattle.std.proofs.Common.{◌≡◌, List, sym, subst}
use Rattle.log4rs_append.specs.declared.locked.Locked.{Locked}
use Rattle.log4rs_build.specs.Keeping.{IsLockOf}
use Rattle.log4rs_plans.specs.Effective.{Planned}
use Rattle.log4rs_build.specs.declared.in_force.InForce.{InForce}

-- a lock that is the same as one of those in force
pub lock_as : {B : Type 0} (in_force : List (InForce B)) (plan : Planned) (a b : Locked B) → a ≡ b → IsLockOf in_force plan b → IsLockOf in_force plan a
lock_as {B = B} in_force plan a b e h = let P : Locked B → Type 0 = λ l. IsLockOf in_force plan l in subst P (sym e) h
