-- What a reading does to the appenders in force.
use Rattle.std.specs.Prelude.{◌≡◌, ℕ, List, map, Option}
use Rattle.log4rs_config.specs.Holder.{History, HolderEvent, Happened, EndsBy, IsUndone}
use Rattle.log4rs_config.specs.Holder.{OnlyRetires}
use Rattle.log4rs_config.specs.declared.runtime.shared.SharedAppender.{SharedAppender}
use Rattle.log4rs_settings.specs.Reload.{Outcome, same, swap, failed}
use Rattle.log4rs_settings.specs.declared.load.LoadError.{LoadError}
use Rattle.log4rs_settings.specs.declared.load.LoadError.TheVariants as load
use Rattle.log4rs_settings.specs.declared.reload.ReloadError.{ReloadError}
use Rattle.log4rs_settings.specs.declared.reload.ReloadError.TheVariants.{Memory}
use Rattle.log4rs_build.specs.Retiring.{leaving_appender}
use Rattle.log4rs_build.specs.declared.rereading.Rebuilt.{Rebuilt}

-- the appenders that leave where this configuration is put in force
abbrev pub leaving_in : {C B : Type 0} → Rebuilt C B → List (SharedAppender B)
leaving_in rebuilt = map leaving_appender rebuilt.leaving.items

module _ {B : Type 0} (made : Option ℕ) (before after : History B) where
  -- a refused text disturbs nobody; after want of memory, all that were retired were resumed
  abbrev pub LeavesHolder : LoadError → Type 0
  LeavesHolder load.Refused = after ≡ before
  LeavesHolder load.Memory = IsUndone made before after

  -- the same of an error of a reading
  abbrev pub LeavesAfter : ReloadError → Type 0
  LeavesAfter Memory = IsUndone made before after
  LeavesAfter _ = after ≡ before

  -- and of a reading that gave no configuration; for one that it gave, what leaves was retired
  abbrev pub LeavesOrSwaps : {C A E : Type 0} → Outcome (Rebuilt C B) A E → Type 0
  LeavesOrSwaps (swap loaded) = OnlyRetires made before after (leaving_in loaded.config)
  LeavesOrSwaps same = after ≡ before
  LeavesOrSwaps (failed error) = LeavesAfter error

-- what was read was put in force, or what leaves for it was resumed
abbrev pub Ends : {B C A E : Type 0} → History B → History B → Outcome (Rebuilt C B) A E → Type 0
Ends {B} before after (swap loaded) =
    (end : List (HolderEvent B)) × EndsBy (leaving_in loaded.config) end × Happened before after end
Ends before after outcome = after ≡ before
