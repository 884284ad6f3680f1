use Rattle.std.proofs.Common.{◌≡◌, ◌≤◌, ◌+◌, length, map}
use denote.Text.{Utf8}
use denote.Shadow.{shadow}
use Rattle.log4rs_rolling.specs.Change.{bytes_at, replay}
use Rattle.log4rs_rolling.specs.MemStore.{change_of, files_in}
use Rattle.log4rs_rolling.proofs.Effects.{files_after}
use Rattle.log4rs_rolling.proofs.store.lookups.len_of.Given as goal

abbrev pub decreases-loop-left : goal.decreases-loop-left
decreases-loop-left l = l.left

-- the file has the bytes of the one that it came from, and more
abbrev pub invariant-loop-left : goal.invariant-loop-left
invariant-loop-left l = shadow (Utf8 l.name) × (l.left ≤ length l.effects)
    × (length (bytes_at (replay (files_in l.start) (map change_of l.effects)) l.path) ≡ length (bytes_at (files_after (files_in l.start) l.effects l.left) l.name) + l.more)
