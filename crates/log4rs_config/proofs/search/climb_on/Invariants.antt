use Rattle.std.proofs.Common.{◌≡◌, ◌<◌, length, map, slice_get, Some}
use Rattle.log4rs_base.specs.Text.{Text}
use Rattle.log4rs_config.specs.Above.{IsBelow}
use Rattle.log4rs_config.proofs.search.climb_on.Given as goal

-- the name at the place is still below the beginning
abbrev pub invariant-loop-up : goal.invariant-loop-up
invariant-loop-up g l = (l.at < length l.above) × ((name : Text) → slice_get (map g.T.Keyed.key l.entries) l.at ≡ Some name → IsBelow name l.front)

abbrev pub decreases-loop-up : goal.decreases-loop-up
decreases-loop-up g l = l.at
