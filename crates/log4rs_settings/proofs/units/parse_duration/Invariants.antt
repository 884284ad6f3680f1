use Rattle.std.proofs.Common.{length}
use denote.Text.{Utf8}
use denote.Shadow.{shadow}
use Rattle.log4rs_settings.proofs.Parts.{Told}
use Rattle.log4rs_settings.proofs.units.parse_duration.Given as goal

abbrev pub invariant-loop-part : goal.invariant-loop-part
invariant-loop-part l = shadow (Utf8 l.rest) × Told l.text l.rest l.total

abbrev pub decreases-loop-part : goal.decreases-loop-part
decreases-loop-part l = length l.rest
