-- A rolled file between two acts.
use Rattle.std.specs.Prelude.{Bool, Option}
use Rattle.log4rs_rolling.specs.Disk.{Disk}
use Rattle.log4rs_rolling.specs.declared.store.Store as Store
use Rattle.log4rs_rolling.specs.declared.fixed_window.FixedWindowRoller.{FixedWindowRoller}
use Rattle.log4rs_rolling.specs.declared.policy.CompoundPolicyOf.{CompoundPolicyOf}
use Rattle.log4rs_rolling.specs.declared.policy.Keep as Keep
use Rattle.log4rs_rolling.specs.declared.trigger.NotedTrigger.{NotedTrigger}
use Rattle.log4rs_rolling.specs.Triggers.{trigger_of}
use Rattle.log4rs_append.specs.Rolling.{policy_of, store_of}
use Rattle.log4rs_append.specs.declared.rolling_file.RollingFileAppender.{RollingFileAppender}
use Rattle.log4rs_restarts.specs.Acts.{BuiltIn}
use Rattle.log4rs_restarts.specs.ActsDone.{ActDone, Moment}
use Rattle.log4rs_restarts.specs.declared.run.Act.{Act}
use Rattle.log4rs_restarts.specs.declared.run.ActOutcome.{ActOutcome}

-- how the files of runs are rolled
abbrev pub Rolls : Type 0
Rolls = CompoundPolicyOf (NotedTrigger BuiltIn) FixedWindowRoller

-- its trigger, its roller, and its store
abbrev pub moment : {S E : Type 0} {store : Store.Ghosts S} {keep : Keep.Ghosts Rolls S}
    → (S → Disk) → RollingFileAppender S Rolls E store keep → Moment
moment disk file = record {
  trigger = trigger_of (policy_of file).trigger;
  roller = (policy_of file).roller;
  disk = disk (store_of file);
}

-- an act between two moments
abbrev pub done : Act → ActOutcome → Option Bool → Moment → Moment → ActDone
done act outcome answer before now = record {
  act = act;
  outcome = outcome;
  answer = answer;
  before = before;
  now = now;
}
