-- Which appenders stand in the configuration in force.
use Rattle.std.specs.Prelude.{◌≡◌, List, Contains, string_bytes}
use Rattle.log4rs_append.specs.Locks.{AreShares}
use Rattle.log4rs_config.specs.declared.runtime.shared.SharedAppender.{SharedAppender}
use Rattle.log4rs_plans.specs.Effective.{Planned}
use Rattle.log4rs_build.specs.Keeping.{planned}
use Rattle.log4rs_build.specs.declared.in_force.InForce.{InForce}

module _ {B : Type 0} where
  -- an appender is as it was asked for, behind the lock of one of its name that is present
  abbrev pub WasAsked : List Planned → List (SharedAppender B) → InForce B → Type 0
  WasAsked asked present appender =
      Contains asked (planned appender)
      × ((shared : SharedAppender B) × Contains present shared
      × (string_bytes shared.name ≡ string_bytes appender.name)
      × AreShares shared.lock appender.lock)
