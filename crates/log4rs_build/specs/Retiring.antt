-- Which appenders a reading finds in force, and which it retires and resumes.
use Rattle.std.specs.Prelude.{◌≡◌, ◌↔◌, ℕ, Bool, true, false, List, [], ◌∷◌, ◌++◌, map, Contains}
use Rattle.std.specs.Prelude.{Option}
use Rattle.log4rs_append.specs.Locks.{AreShares}
use Rattle.log4rs_config.specs.Holder.{HolderEvent, History, Happened, presents, answers_retired}
use Rattle.log4rs_config.specs.Holder.{retirements}
use Rattle.log4rs_config.specs.declared.runtime.shared.SharedAppender.{SharedAppender}
use Rattle.log4rs_build.specs.Keeping.{planned}
use Rattle.log4rs_build.specs.Leaving.{Leaves}
use Rattle.log4rs_build.specs.declared.in_force.InForce.{InForce}
use Rattle.log4rs_build.specs.declared.in_force.Leaver.{Leaver}
use Rattle.log4rs_plans.specs.Effective.{Planned}

module _ {B : Type 0} where
  -- the appender that leaves
  abbrev pub leaving_appender : Leaver B → SharedAppender B
  leaving_appender leaver = leaver.appender

  -- one is another, by a share of its lock
  pub record IsSame (one same : InForce B) : Type 0 where
    pub plan : planned same ≡ planned one
    pub lock : AreShares one.lock same.lock

  -- one that is retired is left out, and another one stands, by a share of its lock
  abbrev pub Stands : Bool → InForce B → List (InForce B) → List (InForce B) → Type 0
  Stands true one rest still = still ≡ rest
  Stands false one rest still = (same : InForce B) × IsSame one same × (still ≡ same ∷ rest)

  -- the holder was asked of each in force whether it is retired; those that are not are so still
  abbrev pub Asks : List (InForce B) → List (InForce B) → List (HolderEvent B) → Type 0
  Asks [] still asked = (still ≡ []) × (asked ≡ [])
  Asks (one ∷ more) still asked =
      (is_retired : Bool) × (rest : List (InForce B)) × (later : List (HolderEvent B))
      × Asks more rest later
      × (asked ≡ answers_retired one.lock is_retired ∷ later)
      × Stands is_retired one rest still

  -- what leaves was retired before a store was made, and nothing else was;
  -- false where one that leaves was not, or was after a store
  pub record Retires
      (asked : List Planned) (in_force : List (InForce B)) (made : Option ℕ)
      (before after : History B) (still : List (InForce B)) (leaving : List (SharedAppender B))
      : Type 0 where
    pub answers : List (HolderEvent B)
    pub present : List (SharedAppender B)
    pub stands : Asks in_force still answers
    pub leaves : (one : SharedAppender B)
        → Contains leaving one ↔ Leaves asked (map planned still) present one
    pub happened : Happened before after (answers ++ presents present ∷ retirements made leaving)
