use Rattle.std.proofs.Common.{◌≡◌, List, ℕ}
use Rattle.log4rs_rolling.specs.MemStore.{files_in}
use Rattle.log4rs_rolling.proofs.Effects.{files_after}
use Rattle.log4rs_rolling.proofs.store.replay.replayed.Given as goal

-- the files after the effects so far
abbrev pub invariant-loop-effect : goal.invariant-loop-effect
invariant-loop-effect l = (path : List ℕ) → files_in l.files path ≡ files_after (files_in l.start) l.effects l.effect-index path
