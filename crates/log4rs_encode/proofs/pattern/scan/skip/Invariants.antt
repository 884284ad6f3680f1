use Rattle.std.proofs.Common.{length}
use denote.Text.{Utf8}
use denote.Shadow.{shadow}
use Rattle.log4rs_encode.specs.Class.{in_class}
use Rattle.log4rs_encode.proofs.Scanned.{Passed}
use Rattle.log4rs_encode.proofs.pattern.scan.skip.Given as goal

abbrev pub invariant-loop-c : goal.invariant-loop-c
invariant-loop-c l = shadow (Utf8 l.rest) × Passed (in_class l.class) l.text l.rest

abbrev pub decreases-loop-c : goal.decreases-loop-c
decreases-loop-c l = length l.rest
