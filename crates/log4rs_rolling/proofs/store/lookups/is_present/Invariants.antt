use Rattle.std.proofs.Common.{◌≡◌, ◌≤◌, length, map, is_some}
use Rattle.log4rs_rolling.specs.Change.{replay}
use denote.Text.{Utf8}
use denote.Shadow.{shadow}
use Rattle.log4rs_rolling.specs.MemStore.{change_of, files_in}
use Rattle.log4rs_rolling.proofs.Effects.{files_after}
use Rattle.log4rs_rolling.proofs.store.lookups.is_present.Given as goal

abbrev pub decreases-loop-left : goal.decreases-loop-left
decreases-loop-left l = l.left

-- the file is there exactly where the one that it came from was
abbrev pub invariant-loop-left : goal.invariant-loop-left
invariant-loop-left l = shadow (Utf8 l.name) × (l.left ≤ length l.effects)
    × (is_some (replay (files_in l.start) (map change_of l.effects) l.path) ≡ is_some (files_after (files_in l.start) l.effects l.left l.name))
