use Rattle.std.proofs.Common.{◌≡◌, length, chars, find}
use denote.Text.{Utf8}
use denote.Shadow.{shadow}
use Rattle.log4rs_base.proofs.NameEnds.{stops}
use Rattle.log4rs_base.proofs.paths.env.is_closed.Given as goal

abbrev pub invariant-loop-c : goal.invariant-loop-c
invariant-loop-c l = shadow (Utf8 l.rest) × (find stops (chars l.text) ≡ find stops (chars l.rest))

abbrev pub decreases-loop-c : goal.decreases-loop-c
decreases-loop-c l = length l.rest
