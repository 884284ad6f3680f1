-- Which appenders a configuration keeps of those in force.
use Rattle.std.specs.Prelude.{◌≡◌, List, Contains, string_bytes}
use Rattle.log4rs_append.specs.Locks.{AreShares}
use Rattle.log4rs_append.specs.declared.locked.Locked.{Locked}
use Rattle.log4rs_settings.specs.Plan.{appender_of}
use Rattle.log4rs_plans.specs.Effective.{Planned}
use Rattle.log4rs_build.specs.declared.in_force.InForce.{InForce}

-- it is kept where one is in force that has its name and its effective plan
abbrev pub IsKept : List Planned → Planned → Type 0
IsKept in_force new = Contains in_force new

module _ {B : Type 0} where
  -- the name and the effective plan of one in force
  abbrev pub planned : InForce B → Planned
  planned appender = (string_bytes appender.name, appender_of appender.plan)

  -- a lock is that of one in force that has this name and effective plan
  abbrev pub IsLockOf : List (InForce B) → Planned → Locked B → Type 0
  IsLockOf in_force plan lock =
      (one : InForce B) × Contains in_force one × (planned one ≡ plan) × AreShares one.lock lock
